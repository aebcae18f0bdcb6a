use mathlib.Core.Path.{◌≡◌, sym, ap, ◌∙◌, subst}
use mathlib.Core.List.{List}
use Prim.Native.Nat.{ℕ, ◌+◌}
use native.Mathlib.Omega.{arith}
use lib.ListN.{length, take, length-replicate}
use lib.Seq.{length-take-le}
use Rattle.facts_holds.proofs.Laws.{own-part}
use Rattle.semantics.proofs.Tools.{clash}
use Rattle.facts_bits.specs.Width as width
use Rattle.facts_bits.proofs.Laws.{with-bit-length}
use Rattle.search_states.specs.States.{row}
use Rattle.search_states.proofs.Laws.{length-row}
use Rattle.game_stage.proofs.Laws.{codes-say, evaluable, shows-met, met-below, Below, row-none, row_more, row-skip}
use Rattle.game_stage.proofs.meeting.Invariants.{Met}
use Rattle.game_stage.proofs.meeting.Goals as goal
use Rattle.game_stage.proofs.meeting.Goals.{else-meets, then-meets}

pub loop-e-init : goal.loop-e-init
loop-e-init c = (length-replicate {A = ℕ} width.bytes 0, λ S z x. row-none _)

pub meets-requires : goal.meets-requires
meets-requires c =
    let few = c.requires.1.count in
    (c.requires.2, own-part c.slots-own.result c.args.s.count c.slots-own.ensures (omega arith), rw c.body-body.ensures (evaluable c.args.m c.requires.0 c.requires.4), omega (arith, few, c.loop-e-test.true))

pub loop-e-preserved : goal.loop-e-preserved
loop-e-preserved c =
    let a = c.args in
    let own = c.slots-own.result in
    let long : length (take a.s.count own) ≡ a.s.count = length-take-le a.s.count own (let o = c.slots-own.ensures.long in let few = c.requires.1.count in omega arith) in
    let l = c.loop-e in (
      elim (c.if-meets.branch) [ then-meets w ↦ ap length (w.met-is ∙ w.put.ensures) ∙ (with-bit-length l.met l.e ∙ l.invariant.0) | else-meets w ↦ ap length w.met-is ∙ l.invariant.0 ],
      λ S z x.
          let law = shows-met a.m c.requires.0 c.requires.4 S a.work.now x l.e in
          let told = rw (c.body-body.ensures, codes-say a.m c.requires.0 c.requires.4) at (c.meets.ensures S x.states (z ∙ sym long)) in
          let p = l.invariant.1 S z x in
          elim (c.if-meets.branch) [ then-meets w ↦ subst (λ (r : List ℕ). Below (Met a.m S) (l.e + 1) r) (sym (w.met-is ∙ w.put.ensures)) (row_more (Met a.m S) l.e l.met p (law.0 (told.0 w.if-meets.true)) (omega (arith, c.requires.1.count, l.invariant.0))) | else-meets w ↦ subst (λ (r : List ℕ). Below (Met a.m S) (l.e + 1) r) (sym w.met-is) (row-skip (Met a.m S) l.e l.met p (λ d. clash (told.1 (law.1 d)) w.if-meets.false)) ],
    )

pub returns : goal.returns
returns c =
    let a = c.args in
    let l = c.loop-e in
    let n = length-row a.s c.requires.1 in
    let p = l.invariant.1 (row a.s) n c.requires.3 in
    record { long = l.invariant.0; bits = λ e h. ((λ q. ((p e h).0 q).1), λ d. (p e h).1 (omega (arith, n, c.loop-e-test.false, met-below a.m c.requires.0 c.requires.4 (row a.s) e d), d)) }
