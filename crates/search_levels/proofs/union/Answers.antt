use mathlib.Core.Path.{refl}
use Prim.Native.Nat.{ℕ}
use native.Mathlib.Omega.{arith}
use Rattle.semantics.proofs.Tools.{clash}
use Rattle.facts_bits.specs.Width as width
use Rattle.facts_bits.proofs.Changing.{before?}
use mathlib.Core.Logic.{⊎_elim}
use Rattle.search_ways.specs.Moves.{InRow}
use Rattle.search_levels.specs.Passing.{Picked}
use Rattle.search_levels.proofs.Rows.{has-row, has-so, PickedBelow}
use Rattle.search_levels.proofs.union.Goals as goal

pub returns : goal.returns
returns c =
    let a = c.args in
    let l = c.loop-u in
    let none = rw l.invariant.0 at c.in-None.ensures.steps in
    let D : ℕ → ℕ → Type 0 = PickedBelow a.table.now a.at a.picked in
    has-so l.out (λ t. InRow 0 width.slots (D l.u-iterator.at) 0 t) (Picked a.table.now a.at a.picked)
    (λ t h. (
      (λ q. (q.2.0, q.2.2, q.2.3, q.2.4)),
      λ q. (refl, omega arith, (q.0, ⊎_elim (λ l. l) (λ l. clash q.2 (none q.0 l (omega (arith, q.1)))) (before? q.0 l.u-iterator.at), q.1, q.2, q.3)),
    ))
    (has-row width.bytes l.out (InRow 0 width.slots (D l.u-iterator.at)) l.invariant.2)
