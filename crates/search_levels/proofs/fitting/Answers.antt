use mathlib.Core.Path.{◌≡◌, refl, sym, ap, ◌∙◌, subst}
use mathlib.Core.Logic.{⊎_elim}
use mathlib.Core.List.{List}
use Prim.Native.Nat.{ℕ, ◌+◌, ◌*◌}
use native.Mathlib.Omega.{arith}
use lib.ListN.{length, replicate}
use Rattle.semantics.proofs.Tools.{clash}
use Rattle.facts_bits.specs.Width as width
use Rattle.facts_bits.specs.Bits.{with_bit}
use Rattle.facts_bits.proofs.Changing.{before?}
use Rattle.facts_bits.proofs.Laws.{with-bit-length}
use Rattle.search_ways.specs.Moves.{Marks, With, InRow}
use Rattle.search_ways.proofs.Marking.{row_more, row-skip}
use Rattle.search_levels.proofs.Rows.{has-row, has-so, row_on}
use Rattle.search_levels.proofs.Passing.{first_below}
use Rattle.search_levels.proofs.fitting.Invariants.{Fitting}
use Rattle.search_levels.proofs.fitting.Goals as goal
use Rattle.search_levels.proofs.fitting.Goals.{else-e-slots-via-then-e-slots+else-holds, else-e-slots-via-else-e-slots}

pub loop-e-preserved-then-holds : goal.loop-e-preserved-then-holds
loop-e-preserved-then-holds c =
    let a = c.args in
    let l = c.loop-e in
    let g = c.in-Some.ensures.steps in
    let n = rw l.invariant.0 at g.2 in
    let z : List ℕ = replicate width.bytes 0 in
    let e : ℕ = c.in-Some.e in
    let at : e ≡ 0 * width.bits + e = omega arith in (
      rw g.0 l.invariant.0,
      ap length c.put.ensures ∙ (with-bit-length l.out e ∙ l.invariant.1),
      λ S R m.
          let D : ℕ → Type 0 = Fitting S a.work.now a.body.now a.t a.f a.row in
          rw g.1
          (subst (λ (out : List ℕ). Marks out (With z (InRow 0 (e + 1) D))) (sym (c.put.ensures ∙ ap (with_bit l.out) at))
          (row_more z l.out 0 e D (row_on a.row l.e-iterator.at e n.after n.clear z l.out D (λ t q. q.0) (l.invariant.2 S R m)) n.most (omega (arith, l.invariant.1, n.most)) (n.set, (c.holds.ensures S R m).0 c.if-holds.true))),
    )

pub loop-e-preserved : goal.loop-e-preserved
loop-e-preserved c =
    let a = c.args in
    let l = c.loop-e in
    let g = c.in-Some.ensures.steps in
    let n = rw l.invariant.0 at g.2 in
    let z : List ℕ = replicate width.bytes 0 in
    let e : ℕ = c.in-Some.e in (
      rw g.0 l.invariant.0,
      l.invariant.1,
      λ S R m.
          let D : ℕ → Type 0 = Fitting S a.work.now a.body.now a.t a.f a.row in
          rw g.1
          (row-skip z l.out 0 e D (row_on a.row l.e-iterator.at e n.after n.clear z l.out D (λ t q. q.0) (l.invariant.2 S R m))
          (elim c.else-e-slots.branch [
            | else-e-slots-via-then-e-slots+else-holds w ↦ λ q. clash ((w.holds.ensures S R m).1 q.1) w.if-holds.false
            | else-e-slots-via-else-e-slots w ↦ λ q. absurd (omega (arith, w.if-e-slots.false, first_below a.work.now a.slots.now a.body.now a.t c.requires.0 S m c.requires.1 e a.f q.1))
          ])),
    )

pub returns : goal.returns
returns c =
    let a = c.args in
    let l = c.loop-e in
    let none = rw l.invariant.0 at c.in-None.ensures.steps in
    λ S R m.
    let D : ℕ → Type 0 = Fitting S a.work.now a.body.now a.t a.f a.row in
    has-so l.out (λ t. InRow 0 l.e-iterator.at D 0 t) D
    (λ t h. ((λ q. q.2), λ q. (refl, ⊎_elim (λ b. b) (λ b. clash q.0 (none t b (omega (arith, h)))) (before? t l.e-iterator.at), q)))
    (has-row width.bytes l.out (InRow 0 l.e-iterator.at D) (l.invariant.2 S R m))
