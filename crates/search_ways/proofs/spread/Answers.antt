use mathlib.Core.Path.{◌≡◌, sym, ap, ◌∙◌, subst}
use mathlib.Core.Logic.{⊎_elim}
use mathlib.Core.Bool.{true, false}
use mathlib.Core.List.{List}
use Prim.Native.Nat.{ℕ, ◌+◌}
use native.Mathlib.Omega.{arith}
use lib.ListN.{length}
use Rattle.std.proofs.lemmas.Bool.{cases_Bool}
use Rattle.semantics.proofs.Tools.{clash}
use Rattle.facts_bits.specs.Width as width
use Rattle.facts_bits.specs.Bits.{bit_at, in_row}
use Rattle.search_ways.specs.Moves.{Marks, With, InRow}
use Rattle.search_ways.specs.Shortest.{Joined}
use Rattle.search_ways.proofs.Marking.{marks-join, row_other}
use Rattle.search_ways.proofs.Nearest.{spread-more, spread-skip}
use Rattle.search_ways.proofs.spread.Goals as goal
use Rattle.search_ways.proofs.spread.Goals.{else-get, then-get}

pub loop-u-preserved : goal.loop-u-preserved
loop-u-preserved c =
    let a = c.args in
    let l = c.loop-u in
    let i = a.j + 1 in
    let D : ℕ → ℕ → Type 0 = λ u. Joined a.links.now a.layers.now u a.j in
    let g = c.get.ensures in
    let p = row_other a.layers.now l.layers i width.slots (D l.u) l.invariant.1 a.j (λ q. omega arith) l.u (omega (arith, c.requires.0)) in (
      elim (c.if-get.branch) [ then-get w ↦ ap length w.layers-is ∙ (w.widen.auto.work ∙ l.invariant.0) | else-get w ↦ ap length w.layers-is ∙ l.invariant.0 ],
      elim (c.if-get.branch) [
        | then-get w ↦ subst (λ (t : List ℕ). Marks t (With a.layers.now (InRow i width.slots (D (l.u + 1))))) (sym w.layers-is)
            (let k = w.row-row.ensures.bits in
            spread-more a.links.now a.layers.now l.layers i a.j l.u l.invariant.1 (p.0 (sym g ∙ w.if-get.true)) _ (λ t. bit_at w.row-row.result t ≡ true) (λ t h. ((λ x. sym (k t (omega arith)) ∙ x), λ x. k t (omega arith) ∙ x))
            (marks-join l.layers i w.row-row.result _ w.widen.ensures.1))
        | else-get w ↦ subst (λ (t : List ℕ). Marks t (With a.layers.now (InRow i width.slots (D (l.u + 1))))) (sym w.layers-is)
            (spread-skip a.links.now a.layers.now l.layers i a.j l.u l.invariant.1 (⊎_elim (λ (z : in_row a.layers.now a.j l.u ≡ true). clash (p.1 z) (sym g ∙ w.if-get.false)) (λ (z : in_row a.layers.now a.j l.u ≡ false). z) (cases_Bool (in_row a.layers.now a.j l.u))))
      ],
    )
