use mathlib.Core.Path.{◌≡◌}
use Prim.Native.Nat.{◌-◌}
use lib.ListN.{length, drop}
use Rattle.semantics.specs.Building.{places, with}
use Rattle.witness_table.specs.Runs.{backwards}
use Rattle.witness_walk.proofs.tell.Given as goal

abbrev pub invariant-loop-i : goal.invariant-loop-i
invariant-loop-i l = l.run ≡ backwards l.initial.run l.k (places (with l.object (drop (length l.lines - length l.yielded) l.lines)))
