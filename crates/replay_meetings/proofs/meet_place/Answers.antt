use mathlib.Core.Path.{◌≡◌, sym, ◌∙◌, subst}
use mathlib.Core.List.{[], ◌∷◌}
use Prim.Native.Nat.{suc}
use native.Mathlib.Omega.{arith}
use Rattle.semantics.specs.Runs.{meet}
use Rattle.model.specs.Places.{objects}
use Rattle.std.specs.Prelude.{Some, None}
use Rattle.model.specs.Records.{stage_at, stage_body}
use Rattle.facts_candidates.specs.declared.Choice.{Choice}
use Rattle.facts_find.specs.Bodies.{Decides}
use Rattle.replay_session.specs.Sessions.{Says, session_in}
use Rattle.replay_steps.specs.Tries.{Holding}
use Rattle.replay_meetings.specs.Carried.{choice_of, AllNamed, AllAgree}
use Rattle.replay_meetings.proofs.Meetings.{named-cells, codes-say, codes-good, slots-seat, part-supported, other-count, not-held, disagrees, meeting-kept}
use Rattle.replay_meetings.proofs.meet_place.Goals as goal

pub returns-then-count-g-clause-tried_by : goal.returns-then-count-g-clause-tried_by
returns-then-count-g-clause-tried_by c =
    let a = c.args in
    λ v states l. other-count a.m.now (session_in states a.at) v a.work.now l.ready l.left a.first a.second a.third a.stage (λ e. c.if-count-g.true (c.count.ensures ∙ e))

pub returns-then-not-all_agree-clause-tried_by : goal.returns-then-not-all_agree-clause-tried_by
returns-then-not-all_agree-clause-tried_by c =
    let a = c.args in let e1 = c.if-stage-i.false in let next : a.stage ≡ suc a.at.met = omega arith in let count = sym c.count.ensures ∙ c.if-count-g.false in
    let f = c.all_named-objects in
    λ v states l.
    let found = named-cells a.m.now l.ready.accepted (stage_at a.m.now a.at.met) (choice_of a.first a.second a.third) f.result (subst (λ (k : Choice). AllNamed a.m.now.carried (stage_at a.m.now a.at.met) k f.result) c.choice-fixed.ensures f.ensures) in
    let n = subst (Says (AllAgree a.at.carried f.result)) c.if-not-all_agree.true c.all_agree.ensures in
    disagrees a.m.now (session_in states a.at) v a.work.now l.ready l.left a.first a.second a.third a.stage next count f.result found n

pub decide-requires : goal.decide-requires
decide-requires c =
    let a = c.args in let l = c.requires.2 in let w = l.ready.accepted in
    rw c.body.ensures (
      l.ready.sees.known.agree,
      codes-good a.m.now w a.at.met l.left,
      rw (codes-say a.m.now w a.at.met l.left) (part-supported a.m.now w a.at.met l.left),
    )

pub returns-in_err-decide-clause-tried_by : goal.returns-in_err-decide-clause-tried_by
returns-in_err-decide-clause-tried_by c =
    let a = c.args in let e1 = c.if-stage-i.false in let next : a.stage ≡ suc a.at.met = omega arith in let count = sym c.count.ensures ∙ c.if-count-g.false in
    rw c.from_residual.ensures (λ v states l.
    let z = session_in states a.at in
    let g = stage_at a.m.now a.at.met in
    not-held a.m.now z v a.work.now l.ready l.left a.first a.second a.third a.stage next count
    (subst (λ (k : Choice). Decides g.variables (Holding a.m.now z (stage_body a.m.now.literals g) g.variables k) None) c.choice-fixed.ensures ((rw (c.body.ensures, codes-say a.m.now l.ready.accepted a.at.met l.left) at c.in_err-decide.ensures) a.m.now v z l.ready (l.rests a.at.met l.left next) (slots-seat a.m.now v z a.slots.now a.work.now (meet a.stage (objects (a.first ∷ a.second ∷ a.third ∷ []))) l))))

pub returns-clause-tried_by : goal.returns-clause-tried_by
returns-clause-tried_by c =
    let a = c.args in let e1 = c.if-stage-i.false in let next : a.stage ≡ suc a.at.met = omega arith in let count = sym c.count.ensures ∙ c.if-count-g.false in
    let f = c.all_named-objects in
    λ v states l.
    let z = session_in states a.at in
    let found = named-cells a.m.now l.ready.accepted (stage_at a.m.now a.at.met) (choice_of a.first a.second a.third) f.result (subst (λ (k : Choice). AllNamed a.m.now.carried (stage_at a.m.now a.at.met) k f.result) c.choice-fixed.ensures f.ensures) in
    let agree = subst (Says (AllAgree a.at.carried f.result)) c.if-not-all_agree.false c.all_agree.ensures in
    let g = stage_at a.m.now a.at.met in
    let held = subst (λ (k : Choice). Decides g.variables (Holding a.m.now z (stage_body a.m.now.literals g) g.variables k) (Some c.in_ok-decide.field-0)) c.choice-fixed.ensures ((rw (c.body.ensures, codes-say a.m.now l.ready.accepted a.at.met l.left) at c.in_ok-decide.ensures) a.m.now v z l.ready (l.rests a.at.met l.left next) (slots-seat a.m.now v z a.slots.now a.work.now (meet a.stage (objects (a.first ∷ a.second ∷ a.third ∷ []))) l)) in
    meeting-kept a.m.now z v a.work.now l.ready l.left a.first a.second a.third a.stage next count f.result found agree c.carry_all.result c.carry_all.ensures _ held.good
