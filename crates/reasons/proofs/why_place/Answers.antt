use mathlib.Core.Path.{sym, ◌∙◌}
use mathlib.Core.List.{[], ◌∷◌}
use native.Mathlib.Omega.{arith}
use Rattle.semantics.specs.Runs.{step, meet}
use Rattle.model.specs.declared.Place.TheVariants.{Step}
use Rattle.model.specs.Places.{objects}
use Rattle.replay_session.specs.Sessions.{session_in}
use Rattle.replay_places.proofs.Putting.{step-place, meeting-place, opened, proper}
use Rattle.reasons.specs.declared.Reason.TheVariants.{NoLine}
use Rattle.reasons.proofs.Places.{done, explains-at, explains-nowhere}
use Rattle.reasons.proofs.why_place.Goals as goal

pub returns-then-at-m : goal.returns-then-at-m
returns-then-at-m c = let a = c.args in λ v states l p e. done a.m.now (session_in states a.at) l.ready.accepted c.if-at-m.true p

pub why_step-requires : goal.why_step-requires
why_step-requires c = let a = c.args in let q = c.in-Step in
    let e = sym c.place_of.ensures ∙ q.is in
    let v = c.requires.0 in let states = c.requires.1 in
    ((v, states, opened a.m.now v (session_in states a.at) a.slots.now a.work.now a.n c.requires.2 c.if-at-m.false (step q.line q.object) (step-place a.n q.line q.object e)), (proper a.n (Step q.line q.object) (omega arith) e).1)

pub returns-in-Step : goal.returns-in-Step
returns-in-Step c = let a = c.args in let q = c.in-Step in
    let e = step-place a.n q.line q.object (sym c.place_of.ensures ∙ q.is) in
    λ v states l.
    let z = session_in states a.at in
    explains-at a.m.now z a.n c.why_step.result (step q.line q.object) e
    (c.why_step.ensures v states (opened a.m.now v z a.slots.now a.work.now a.n l c.if-at-m.false (step q.line q.object) e))

pub returns-in-Malformed : goal.returns-in-Malformed
returns-in-Malformed c = let a = c.args in λ v states l. explains-nowhere a.m.now (session_in states a.at) a.n NoLine (sym c.place_of.ensures ∙ c.in-Malformed.is)

pub why_meeting-requires : goal.why_meeting-requires
why_meeting-requires c = let a = c.args in let q = c.in-Meeting in
    let e = meeting-place a.n q.stage q.first q.second q.third (sym c.place_of.ensures ∙ q.is) in
    let v = c.requires.0 in let states = c.requires.1 in
    (v, states, opened a.m.now v (session_in states a.at) a.slots.now a.work.now a.n c.requires.2 c.if-at-m.false (meet q.stage (objects (q.first ∷ q.second ∷ q.third ∷ []))) e)

pub returns-in-Meeting : goal.returns-in-Meeting
returns-in-Meeting c = let a = c.args in let q = c.in-Meeting in
    let p = meet q.stage (objects (q.first ∷ q.second ∷ q.third ∷ [])) in
    let e = meeting-place a.n q.stage q.first q.second q.third (sym c.place_of.ensures ∙ q.is) in
    λ v states l.
    let z = session_in states a.at in
    explains-at a.m.now z a.n c.why_meeting.result p e
    (c.why_meeting.ensures v states (opened a.m.now v z a.slots.now a.work.now a.n l c.if-at-m.false p e))
