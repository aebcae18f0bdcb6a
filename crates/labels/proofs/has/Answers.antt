-- `labels::has` meets its contract: a masked shift is the bit, and a number of 32 bits has no bit from 32 up.
use mathlib.Core.Path.{sym, ap, ◌∙◌}
use borrow.Author.Tests.{le-ltb}
use Prim.Native.Nat.{ℕ, ◌^◌, ◌/◌}
use native.Mathlib.Omega.{arith}
use lib.Bits.{and_mask}
use lib.Dec.{eqb}
use Rattle.semantics.specs.Labels.{has}
use Rattle.semantics.proofs.Sets.{has-beyond}
use Rattle.labels.proofs.has.Goals as goal

pub returns-then-relation-lt-RELATIONS : goal.returns-then-relation-lt-RELATIONS
unfolding has
returns-then-relation-lt-RELATIONS c = let a = c.args in ap (λ (n : ℕ). eqb n 1) (and_mask (a.state / 2 ^ a.relation) 1)

pub returns-else-relation-lt-RELATIONS : goal.returns-else-relation-lt-RELATIONS
returns-else-relation-lt-RELATIONS c = let a = c.args in le-ltb _ _ c.if-relation-lt-RELATIONS.false ∙ sym (has-beyond a.state a.relation 32 (omega arith) (omega arith))
