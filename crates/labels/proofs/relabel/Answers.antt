use mathlib.Core.Path.{sym, ap, ◌∙◌, subst}
use Prim.Native.Nat.{ℕ, ◌+◌, ◌^◌, ◌<◌}
use native.Mathlib.Nat.{le_trans}
use native.Mathlib.Omega.{arith}
use lib.Bits.{bit_or}
use lib.Pow.{pow_mono}
use Rattle.std.proofs.lemmas.Nat.{one_shl}
use Rattle.semantics.specs.Labels.{relabel, union}
use Rattle.labels.proofs.Laws.{Done, done_none, done-set, done-clear, none_left, done_all}
use Rattle.labels.proofs.relabel.Goals as goal
use Rattle.labels.proofs.relabel.Goals.{else-keeps, then-keeps}

pub loop-relation-init : goal.loop-relation-init
loop-relation-init c = let a = c.args in done_none (relabel a.state a.plus a.minus)

-- neither the state nor the first list has more
pub returns-then-ended : goal.returns-then-ended
returns-then-ended c =
    let a = c.args in
    let l = c.loop-relation in
    let none = none_left a.state a.plus (2 ^ l.relation) (sym c.ended.ensures ∙ c.if-ended.true) in
    done_all a.state a.plus a.minus l.relation l.after none.0 none.1 l.invariant

pub loop-relation-preserved : goal.loop-relation-preserved
unfolding union
loop-relation-preserved c =
    let a = c.args in
    let l = c.loop-relation in
    let below = c.loop-relation-test.true in
    let t = relabel a.state a.plus a.minus in
    let k = c.keeps.ensures in
    elim (c.if-keeps.branch) [ then-keeps w ↦ subst (Done t (l.relation + 1)) (sym (w.after-is ∙ ap (bit_or l.after) (one_shl l.relation 32 (omega (arith, below))))) (done-set t l.relation l.after l.invariant (sym k ∙ w.if-keeps.true)) | else-keeps w ↦ subst (Done t (l.relation + 1)) (sym w.after-is) (done-clear t l.relation l.after l.invariant (sym k ∙ w.if-keeps.false)) ]

pub returns : goal.returns
returns c =
    let a = c.args in
    let l = c.loop-relation in
    let under : (s : ℕ) → s < 2 ^ 32 → s < 2 ^ l.relation = (λ s h. le_trans h (pow_mono {i = 32} {j = l.relation} (omega arith))) in
    done_all a.state a.plus a.minus l.relation l.after (under a.state (omega arith)) (under a.plus (omega arith)) l.invariant
