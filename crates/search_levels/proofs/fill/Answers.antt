use mathlib.Core.Path.{◌≡◌, refl, sym, ap, ◌∙◌, subst}
use mathlib.Core.Logic.{◌↔◌}
use mathlib.Core.Bool.{Bool, true, ◌||◌}
use mathlib.Core.List.{List}
use Prim.Native.Nat.{ℕ, suc, ◌+◌, ◌*◌, ◌≤◌, ◌<◌}
use native.Mathlib.Omega.{arith}
use native.Mathlib.Numerals.{add-one}
use lib.ListN.{length, take, replicate}
use lib.Seq.{length-take-le}
use Rattle.limits.specs.Limits as limit
use Rattle.model.specs.declared.Stage.{Stage}
use Rattle.model.specs.Records.{stage_at}
use Rattle.facts_bits.proofs.Laws.{with-bit-length}
use Rattle.facts_holds.proofs.Laws.{own-part}
use Rattle.std.specs.Prelude.{Option}
use Rattle.search_levels.specs.declared.Meeting.{Meeting}
use Rattle.search_levels.specs.Levels.{levels_bytes, chosen, pair_at, Passed}
use Rattle.search_levels.specs.Passing.{stands, besides, Led, Met, Ready, meeting_of, Clear}
use Rattle.search_levels.proofs.Stages.{codes, stage-ready, chosen-after, passed-stage}
use Rattle.search_levels.proofs.Filling.{begun, begun-clear, passed-more}
use Rattle.search_levels.proofs.fill.Goals as goal
use Rattle.search_levels.proofs.fill.Goals.{After-asked-t}

pub loop-k-init : goal.loop-k-init
loop-k-init c =
    let put = c.put in
    let e = c.put.ensures in (
      ap length e ∙ with-bit-length (replicate levels_bytes 0) 0,
      refl,
      refl,
      subst (λ (rows : List ℕ). Clear (limit.listed * suc 0) rows) (sym e) (begun-clear levels_bytes (omega arith)),
      subst (λ (rows : List ℕ). (e f : ℕ) → e < limit.listed → f < limit.listed → (pair_at rows 0 e f ≡ true) ↔ ((e ≡ 0) × (f ≡ 0))) (sym e) (begun levels_bytes (omega arith)),
      λ S R n j l. absurd (omega (arith, l)),
    )

-- the stage as it is asked
same-meeting : (g : Stage) (cells : List ℕ) (a a' b b' : Bool) (p p' : Option (List ℕ)) → a ≡ a' → b ≡ b' → p ≡ p' → meeting_of g cells a b p ≡ meeting_of g cells a' b' p'
same-meeting g cells a a' b b' p p' e f h = rw (e, f, h)

met-as : (c : After-asked-t) → let a = c.args in let k = c.loop-k.k in c.asked-t.result ≡ meeting_of (stage_at a.m k) a.m.carried (chosen a.m 0 k) (chosen a.m 1 k) (besides a.p k)
met-as c =
    let a = c.args in
    let l = c.loop-k in
    let asked = c.asked_at in
    c.asked-t.ensures ∙ same-meeting (stage_at a.m l.k) a.m.carried l.first (chosen a.m 0 l.k) l.second (chosen a.m 1 l.k) asked.result (besides a.p l.k) l.invariant.1 l.invariant.2 asked.ensures

pub pass-requires : goal.pass-requires
pass-requires c =
    let a = c.args in
    let l = c.loop-k in
    let here = c.loop-k-test.true in
    let own = c.slots-own.result in
    let few : a.s.count ≤ limit.listed = omega (arith, c.requires.1.proper.count) in
    let slots = take a.s.count own in
    let long : length slots ≡ a.s.count = length-take-le a.s.count own (let o = c.slots-own.ensures.long in omega arith) in
    (rw c.body.ensures (subst (λ (t : Meeting). Ready a.work.now slots (codes a.m c.requires.0 l.k here) t) (sym (met-as (goal.at.pass-requires c).After-asked-t)) (stage-ready a.m c.requires.0 l.k here a.p c.requires.2 a.work.now slots c.requires.1.agree (own-part own a.s.count c.slots-own.ensures (omega arith)) (omega arith))), omega (arith, c.requires.0.stages, here), l.invariant.3)

pub loop-k-preserved : goal.loop-k-preserved
loop-k-preserved c =
    let a = c.args in
    let l = c.loop-k in
    let p = c.pass in
    let new : List ℕ = p.new.rows in
    let here = c.loop-k-test.true in
    let e : suc l.k ≡ l.k + 1 = sym (add-one l.k) in
    let w = c.pass.ensures.0 in
    let own = c.slots-own.result in
    let long : length (take a.s.count own) ≡ a.s.count = length-take-le a.s.count own (let o = c.slots-own.ensures.long in let few = c.requires.1.proper.count in omega arith) in (
      w.long ∙ l.invariant.0,
      c.after-first.ensures ∙ ap (λ (t : Meeting). t.first.chosen || stands t.first) (met-as (goal.at.loop-k-preserved c).After-asked-t) ∙ chosen-after a.m c.requires.0 l.k here 0 ∙ ap (chosen a.m 0) e,
      c.after-second.ensures ∙ ap (λ (t : Meeting). t.second.chosen || stands t.second) (met-as (goal.at.loop-k-preserved c).After-asked-t) ∙ chosen-after a.m c.requires.0 l.k here 1 ∙ ap (chosen a.m 1) e,
      subst (λ (k : ℕ). Clear (limit.listed * suc k) new) e w.clear,
      (λ u v g h. let b = l.invariant.4 u v g h in let z = w.kept (limit.listed * 0 + v) u (omega (arith, h)) g in ((λ q. b.0 (sym z ∙ q)), λ q. z ∙ b.1 q)),
      λ S R n. subst (λ (k : ℕ). (j : ℕ) → j < k → Passed a.m S a.work.now a.ways.now a.p j (pair_at new j) (pair_at new (suc j))) e
          (passed-more a.m S a.work.now a.ways.now a.p l.k l.rows new w.kept (l.invariant.5 S R n)
          (passed-stage a.m c.requires.0 l.k here a.p c.requires.2 S a.work.now a.ways.now l.rows new
          (subst (λ (t : Meeting). (u v : ℕ) → u < limit.listed → v < limit.listed → (pair_at new (suc l.k) u v ≡ true) ↔ (Led a.ways.now t (pair_at l.rows l.k) u v × Met S a.work.now (codes a.m c.requires.0 l.k here) t u v)) (met-as (goal.at.loop-k-preserved c).After-asked-t) (rw c.body.ensures at (p.ensures.1 S R (n ∙ sym long)))))),
    )
