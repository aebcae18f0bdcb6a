use mathlib.Core.Path.{◌≡◌, sym, ◌∙◌, subst}
use mathlib.Core.List.{[], ◌∷◌}
use Prim.Native.Nat.{ℕ, suc}
use native.Mathlib.Omega.{arith}
use Rattle.semantics.specs.Runs.{meet}
use Rattle.model.specs.Places.{objects}
use lib.ListN.{take}
use Rattle.model.specs.Records.{stage_at, stage_body, program_of}
use Rattle.replay_session.specs.Sessions.{Says, session_in}
use Rattle.facts_candidates.specs.declared.Choice.{Choice}
use Rattle.facts_find.specs.Bodies.{Fixed}
use Rattle.replay_steps.specs.Tries.{Holding}
use Rattle.replay_meetings.specs.Carried.{choice_of}
use Rattle.reasons_bodies.specs.Blames.{Blames}
use Rattle.reasons.specs.Reasons.{AnySwapped, Beyond}
use Rattle.replay_meetings.proofs.Meetings.{codes-long, codes-say, codes-good, slots-seat, part-supported}
use Rattle.reasons.proofs.Meetings.{other-stage, other-count, swapped-cell, none-swapped, no-object, swapped, stage-literal}
use Rattle.reasons.proofs.why_meeting.Goals as goal

pub returns-then-stage-i : goal.returns-then-stage-i
returns-then-stage-i c = let a = c.args in let n = c.if-stage-i.true in
    λ v states l. other-stage a.m.now (session_in states a.at) v a.work.now l.ready l.left a.first a.second a.third a.stage (λ e. n (omega arith))

pub returns-then-count-g : goal.returns-then-count-g
returns-then-count-g c = let a = c.args in
    let e1 = c.if-stage-i.false in
    let next : a.stage ≡ suc a.at.met = omega arith in
    λ v states l. other-count a.m.now (session_in states a.at) v a.work.now l.ready l.left a.first a.second a.third a.stage next (λ e. c.if-count-g.true (c.count.ensures ∙ e))

pub returns-then-beyond : goal.returns-then-beyond
returns-then-beyond c = let a = c.args in
    let e1 = c.if-stage-i.false in
    let next : a.stage ≡ suc a.at.met = omega arith in
    let d = subst (λ (k : Choice). Beyond k (stage_at a.m.now a.at.met).variables a.at.objects) c.choice-fixed.ensures (subst (Says _) c.if-beyond.true c.beyond.ensures) in
    λ v states l. no-object a.m.now (session_in states a.at) v a.work.now l.ready l.left a.first a.second a.third a.stage next (sym c.count.ensures ∙ c.if-count-g.false) d.0 d.1 d.2

pub returns-then-any_swapped : goal.returns-then-any_swapped
returns-then-any_swapped c = let a = c.args in
    let e1 = c.if-stage-i.false in
    let next : a.stage ≡ suc a.at.met = omega arith in
    λ v states l.
    let d = swapped-cell a.m.now l.ready.accepted (stage_at a.m.now a.at.met) a.at.carried (choice_of a.first a.second a.third) (subst (λ (k : Choice). AnySwapped a.m.now.carried (stage_at a.m.now a.at.met) a.at.carried k) c.choice-fixed.ensures (subst (Says _) c.if-any_swapped.true c.any_swapped.ensures)) in
    swapped a.m.now (session_in states a.at) v a.work.now l.ready l.left a.first a.second a.third a.stage next (sym c.count.ensures ∙ c.if-count-g.false) d

pub blame-index-requires : goal.blame-index-requires
blame-index-requires c = let a = c.args in
    let l = c.requires.2 in
    let w = l.ready.accepted in
    rw c.body.ensures (
      l.ready.sees.known.agree,
      omega (arith, codes-long a.m.now w a.at.met l.left, (w.stage a.at.met l.left).part.short),
      ((stage_at a.m.now a.at.met).variables, codes-good a.m.now w a.at.met l.left),
      rw (codes-say a.m.now w a.at.met l.left) (part-supported a.m.now w a.at.met l.left),
    )

pub returns : goal.returns
returns c = let a = c.args in
    let e1 = c.if-stage-i.false in
    let next : a.stage ≡ suc a.at.met = omega arith in
    λ v states l.
    let z = session_in states a.at in
    let none = none-swapped a.m.now l.ready.accepted (stage_at a.m.now a.at.met) a.at.carried (choice_of a.first a.second a.third) (subst (λ (k : Choice). AnySwapped a.m.now.carried (stage_at a.m.now a.at.met) a.at.carried k → ⊥) c.choice-fixed.ensures (subst (Says _) c.if-any_swapped.false c.any_swapped.ensures)) in
    let g = stage_at a.m.now a.at.met in
    stage-literal a.m.now z v a.work.now l.ready l.left a.first a.second a.third a.stage next (sym c.count.ensures ∙ c.if-count-g.false) none c.blame-index.result
    (subst (λ (k : Choice). ((σ : ℕ → ℕ) → Holding a.m.now z (stage_body a.m.now.literals g) g.variables k σ → ⊥) → Blames (program_of a.m.now) (take a.at.objects states) (stage_body a.m.now.literals g) (Fixed g.variables k) c.blame-index.result) c.choice-fixed.ensures (λ no. (rw (c.body.ensures, codes-say a.m.now l.ready.accepted a.at.met l.left) at c.blame-index.ensures) a.m.now v z g.variables l.ready (codes-good a.m.now l.ready.accepted a.at.met l.left) (l.rests a.at.met l.left next) (slots-seat a.m.now v z a.slots.now a.work.now (meet a.stage (objects (a.first ∷ a.second ∷ a.third ∷ []))) l) no))
