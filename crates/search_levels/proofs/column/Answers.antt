use mathlib.Core.Path.{◌≡◌, refl, sym, ap, ◌∙◌, subst}
use mathlib.Core.Bool.{true}
use mathlib.Core.List.{List}
use Prim.Native.Nat.{ℕ, ◌+◌, ◌*◌}
use native.Mathlib.Omega.{arith}
use lib.ListN.{length, replicate}
use Rattle.limits.specs.Limits as limit
use Rattle.semantics.proofs.Tools.{clash}
use Rattle.facts_bits.specs.Width as width
use Rattle.facts_bits.specs.Bits.{with_bit, in_row}
use Rattle.facts_bits.proofs.Laws.{with-bit-length}
use Rattle.search_ways.specs.Moves.{Marks, With, InRow}
use Rattle.search_ways.proofs.Marking.{row_more, row-skip}
use Rattle.search_levels.proofs.Rows.{has-row, has-so}
use Rattle.search_levels.proofs.column.Goals as goal
use Rattle.search_levels.proofs.column.Goals.{else-get, then-get}

pub loop-u-preserved : goal.loop-u-preserved
loop-u-preserved c =
    let a = c.args in
    let l = c.loop-u in
    let z : List ℕ = replicate width.bytes 0 in
    let D : ℕ → Type 0 = λ t. in_row a.ways.now t a.f ≡ true in
    let at : l.u ≡ 0 * width.bits + l.u = omega arith in
    let g = c.get.ensures in (
      l.invariant.0,
      l.invariant.1,
      elim (c.if-get.branch) [ then-get w ↦ ap length (w.out-is ∙ w.put.ensures) ∙ (with-bit-length l.out l.u ∙ l.invariant.2) | else-get w ↦ ap length w.out-is ∙ l.invariant.2 ],
      elim (c.if-get.branch) [
        | then-get w ↦ subst (λ (out : List ℕ). Marks out (With z (InRow 0 (l.u + 1) D))) (sym (w.out-is ∙ (w.put.ensures ∙ ap (with_bit l.out) at)))
            (row_more z l.out 0 l.u D l.invariant.3 (omega (arith, c.loop-u-test.true)) (omega (arith, l.invariant.2, c.loop-u-test.true)) (sym g ∙ w.if-get.true))
        | else-get w ↦ subst (λ (out : List ℕ). Marks out (With z (InRow 0 (l.u + 1) D))) (sym w.out-is)
            (row-skip z l.out 0 l.u D l.invariant.3 (λ q. clash q (sym g ∙ w.if-get.false)))
      ],
    )

pub returns : goal.returns
returns c =
    let a = c.args in
    let l = c.loop-u in
    let e : l.u ≡ limit.listed = omega arith in
    let D : ℕ → Type 0 = λ t. in_row a.ways.now t a.f ≡ true in
    has-so l.out (λ t. InRow 0 l.u D 0 t) D (λ t h. ((λ q. q.2), λ q. (refl, omega (arith, e), q)))
    (has-row width.bytes l.out (InRow 0 l.u D) l.invariant.3)
