use mathlib.Core.Path.{refl, subst}
use Prim.Native.Nat.{ℕ}
use Rattle.std.specs.Prelude.{Some}
use Rattle.semantics.specs.Runs.{step}
use Rattle.model.specs.declared.Action.{Action}
use Rattle.model.specs.declared.Action.TheVariants.{New, Next}
use Rattle.model.specs.Records.{clause_body}
use Rattle.model.proofs.Lines.{line_other}
use Rattle.facts_candidates.specs.declared.Choice.{Choice}
use Rattle.facts_find.specs.Bodies.{Decides}
use Rattle.replay_session.specs.Sessions.{session_in, created, relabeled}
use Rattle.replay_steps.specs.Tries.{Holding, Fixes, Taken, Barred}
use Rattle.replay_steps.proofs.Steps.{on-action, codes-say, codes-good, codes-supported, slots-seat, part-vars, line-variables, next-variable, stepping, objects-below, new-kept, next-kept, no-clause, unfit, unheld}
use Rattle.replay_steps.proofs.step_place.Goals as goal

pub returns-in_err-c-clause-tried_by : goal.returns-in_err-c-clause-tried_by
returns-in_err-c-clause-tried_by c =
    let a = c.args in let l = c.requires.0.1 in
    rw c.from_residual.ensures (no-clause a.m.now (session_in a.states.now a.at) c.requires.0.0 a.work.now l.ready l.left a.line a.object (line_other a.m.now a.line c.in_err-c.ensures))

pub returns-in_err-objects-clause-tried_by : goal.returns-in_err-objects-clause-tried_by
returns-in_err-objects-clause-tried_by c =
    let a = c.args in let f = c.in_ok-c in let v = c.requires.0.0 in let z = session_in a.states.now a.at in
    let t = stepping a.m.now v z a.slots.now a.work.now a.line a.object c.requires.0.1 f.c f.ensures in
    rw c.from_residual-in_err-objects.ensures (subst (λ (ℓ : ℕ). Barred a.m.now z (step ℓ a.object)) f.ensures.3
    (unfit a.m.now v z a.slots.now a.work.now f.c t a.object f.c.action refl c.in_err-objects.ensures))

pub decide-requires : goal.decide-requires
decide-requires c =
    let a = c.args in let f = c.in_ok-c in
    let m = a.m.now in let v = c.requires.0.0 in let z = session_in a.states.now a.at in
    let t = stepping m v z a.slots.now a.work.now a.line a.object c.requires.0.1 f.c f.ensures in
    rw c.body.ensures (t.ready.sees.known.agree, codes-good m v z a.slots.now a.work.now f.c t, codes-supported m v z a.slots.now a.work.now f.c t)

pub returns-in_err-choice-clause-tried_by : goal.returns-in_err-choice-clause-tried_by
returns-in_err-choice-clause-tried_by c =
    let a = c.args in let f = c.in_ok-c in let v = c.requires.0.0 in let z = session_in a.states.now a.at in
    let t = stepping a.m.now v z a.slots.now a.work.now a.line a.object c.requires.0.1 f.c f.ensures in
    rw c.from_residual-in_err-choice.ensures (subst (λ (ℓ : ℕ). Barred a.m.now z (step ℓ a.object)) f.ensures.3
    (unheld a.m.now v z a.slots.now a.work.now f.c t a.object f.c.action refl c.in_ok-objects.objects c.in_ok-objects.ensures ((rw (c.body.ensures, codes-say a.m.now v z a.slots.now a.work.now f.c t) at c.in_err-choice.ensures) a.m.now v z t.ready t.rests (slots-seat a.m.now v z a.slots.now a.work.now f.c t))))

pub number-stood-requires : goal.number-stood-requires
number-stood-requires c =
    let a = c.args in let f = c.in_ok-c in
    let m = a.m.now in let v = c.requires.0.0 in let z = session_in a.states.now a.at in
    let t = stepping m v z a.slots.now a.work.now a.line a.object c.requires.0.1 f.c f.ensures in
    let first = (rw (c.body.ensures, codes-say m v z a.slots.now a.work.now f.c t) at c.in_ok-choice.ensures) m v z t.ready t.rests (slots-seat m v z a.slots.now a.work.now f.c t) in
    objects-below m z v a.work.now t.ready t.left f.c.line a.object (clause_body m.literals f.c) f.c.variables c.in_ok-objects.objects _ (part-vars m v z a.slots.now a.work.now f.c t) first.good

pub returns-in-New-clause-tried_by : goal.returns-in-New-clause-tried_by
returns-in-New-clause-tried_by c =
    let a = c.args in let f = c.in_ok-c in
    let m = a.m.now in let v = c.requires.0.0 in let z = session_in a.states.now a.at in let set = c.in-New.set in
    let t = stepping m v z a.slots.now a.work.now a.line a.object c.requires.0.1 f.c f.ensures in
    let first = (rw (c.body.ensures, codes-say m v z a.slots.now a.work.now f.c t) at c.in_ok-choice.ensures) m v z t.ready t.rests (slots-seat m v z a.slots.now a.work.now f.c t) in
    let fits = subst (λ (k : Action). Fixes k a.at.objects a.object (Some c.in_ok-objects.objects)) c.in-New.is c.in_ok-objects.ensures in
    rw c.onward.ensures (subst (λ (ℓ : ℕ). Taken m z (step ℓ a.object) (created z set) c.number-stood.result) f.ensures.3
    (new-kept m z v a.work.now t.ready t.left f.c.line a.object set (clause_body m.literals f.c) f.c.variables
    (on-action m v z a.slots.now a.work.now f.c t (New set) c.in-New.is) c.in_ok-objects.objects fits.1
    (line-variables m v z a.slots.now a.work.now f.c t (New set) c.in-New.is) fits.0 _ c.number-stood.result first c.number-stood.ensures))

pub returns-in-Next-clause-tried_by : goal.returns-in-Next-clause-tried_by
returns-in-Next-clause-tried_by c =
    let a = c.args in let f = c.in_ok-c in
    let m = a.m.now in let v = c.requires.0.0 in let z = session_in a.states.now a.at in let plus = c.in-Next.plus in let minus = c.in-Next.minus in
    let t = stepping m v z a.slots.now a.work.now a.line a.object c.requires.0.1 f.c f.ensures in
    let body = clause_body m.literals f.c in
    let fits = subst (λ (k : Action). Fixes k a.at.objects a.object (Some c.in_ok-objects.objects)) c.in-Next.is c.in_ok-objects.ensures in
    let first = subst (λ (k : Choice). Decides f.c.variables (Holding m z body f.c.variables k) (Some c.in_ok-choice.choice)) fits.1 ((rw (c.body.ensures, codes-say m v z a.slots.now a.work.now f.c t) at c.in_ok-choice.ensures) m v z t.ready t.rests (slots-seat m v z a.slots.now a.work.now f.c t)) in
    rw (c.onward-in-Next.ensures, c.relabel-state.ensures) (subst (λ (ℓ : ℕ). Taken m z (step ℓ a.object) (relabeled z a.object plus minus) c.number-stood.result) f.ensures.3
    (next-kept m z v a.work.now t.ready t.left f.c.line a.object plus minus body f.c.variables
    (on-action m v z a.slots.now a.work.now f.c t (Next plus minus) c.in-Next.is)
    (line-variables m v z a.slots.now a.work.now f.c t (Next plus minus) c.in-Next.is) (next-variable m v z a.slots.now a.work.now f.c t plus minus c.in-Next.is) fits.0 _ c.number-stood.result first c.number-stood.ensures))
