use mathlib.Core.Path.{refl, sym}
use mathlib.Core.List.{[]}
use native.Mathlib.Omega.{arith}
use Rattle.witness_table.proofs.Laws.{backwards-none}
use Rattle.witness_from.proofs.approach.Goals as goal

pub returns-then-carried : goal.returns-then-carried
returns-then-carried c = rw c.if-carried.true (record { places = []; good = refl; few = omega arith; numerable = tt; written = sym (backwards-none _ _); index = omega arith })
