use native.Mathlib.Omega.{arith}
use mathlib.Core.Path.{◌≡◌, refl, subst}
use Prim.Native.Nat.{ℕ}
use Rattle.std.specs.Prelude.{None}
use Rattle.semantics.specs.Models.{line, rule}
use Rattle.semantics.specs.Runs.{step}
use Rattle.model.specs.declared.Action.{Action}
use Rattle.model.specs.declared.Action.TheVariants.{Rule, New, Next}
use Rattle.model.specs.Records.{up_from, clause_body, program_of}
use Rattle.model.proofs.Lines.{line_other}
use Rattle.replay_session.specs.Sessions.{session_in}
use Rattle.replay_steps.specs.Tries.{Fixes}
use Rattle.replay_steps.proofs.Steps.{on-action, codes-long, codes-say, codes-good, codes-supported, slots-seat, stepping}
use Rattle.reasons.specs.declared.Reason.TheVariants.{NotNext, NoObject, Literal}
use Rattle.reasons.specs.Reasons.{Explains}
use Rattle.reasons.proofs.Steps.{no-clause, no_step, new-other, next-other, step-literal, part-short}
use Rattle.reasons.proofs.why_step.Goals as goal

pub returns-in_default : goal.returns-in_default
returns-in_default c = let a = c.args in
    λ v states l. no-clause a.m.now (session_in states a.at) v a.work.now l.ready l.left a.line a.object (line_other a.m.now a.line c.in_default.ensures)

pub returns-in-Rule : goal.returns-in-Rule
returns-in-Rule c = let a = c.args in let f = c.in-Some in
    let r = c.in-Rule.relation in
    let n = c.in-Rule.arity in
    let b = clause_body a.m.now.literals f.c in
    λ v states l.
    let z = session_in states a.at in
    let t = stepping a.m.now v z a.slots.now a.work.now a.line a.object l f.c f.ensures in
    let on = on-action a.m.now v z a.slots.now a.work.now f.c t (Rule r n) c.in-Rule.is in
    no_step a.m.now z v a.work.now l.ready l.left a.line a.object r (up_from 0 n) b
    (subst (λ (ℓ : ℕ). line (program_of a.m.now) ℓ ≡ rule r (up_from 0 n) b) f.ensures.3 on)

pub returns-in-New : goal.returns-in-New
returns-in-New c = let a = c.args in let f = c.in-Some in let set = c.in-New.set in
    λ v states l.
    let z = session_in states a.at in
    let t = stepping a.m.now v z a.slots.now a.work.now a.line a.object l f.c f.ensures in
    subst (λ (ℓ : ℕ). Explains a.m.now z (step ℓ a.object) NotNext) f.ensures.3
    (new-other a.m.now z v a.work.now l.ready l.left f.c.line a.object set (clause_body a.m.now.literals f.c) f.c.variables (on-action a.m.now v z a.slots.now a.work.now f.c t (New set) c.in-New.is)
    (subst (λ (k : Action). Fixes k a.at.objects a.object None) c.in-New.is c.in_default-fixed.ensures))

pub returns-in-Next : goal.returns-in-Next
returns-in-Next c = let a = c.args in let f = c.in-Some in let plus = c.in-Next.plus in let minus = c.in-Next.minus in
    λ v states l.
    let z = session_in states a.at in
    let t = stepping a.m.now v z a.slots.now a.work.now a.line a.object l f.c f.ensures in
    subst (λ (ℓ : ℕ). Explains a.m.now z (step ℓ a.object) NoObject) f.ensures.3
    (next-other a.m.now z v a.work.now l.ready l.left f.c.line a.object plus minus (clause_body a.m.now.literals f.c) f.c.variables (on-action a.m.now v z a.slots.now a.work.now f.c t (Next plus minus) c.in-Next.is)
    (subst (λ (k : Action). Fixes k a.at.objects a.object None) c.in-Next.is c.in_default-fixed.ensures))

pub blame-index-requires : goal.blame-index-requires
blame-index-requires c = let a = c.args in let f = c.in-Some in
    let m = a.m.now in let v = c.requires.0.0 in let z = session_in c.requires.0.1 a.at in
    let t = stepping m v z a.slots.now a.work.now a.line a.object c.requires.0.2 f.c f.ensures in
    rw c.body.ensures (t.ready.sees.known.agree, omega (arith, codes-long m v z a.slots.now a.work.now f.c t, part-short m v z a.slots.now a.work.now f.c t), (f.c.variables, codes-good m v z a.slots.now a.work.now f.c t), codes-supported m v z a.slots.now a.work.now f.c t)

pub returns : goal.returns
returns c = let a = c.args in let f = c.in-Some in
    λ v states l.
    let z = session_in states a.at in
    let t = stepping a.m.now v z a.slots.now a.work.now a.line a.object l f.c f.ensures in
    subst (λ (ℓ : ℕ). Explains a.m.now z (step ℓ a.object) (Literal c.blame-index.result)) f.ensures.3
    (step-literal a.m.now v z a.slots.now a.work.now f.c t a.object f.c.action refl c.in-Some-fixed.fixed c.in-Some-fixed.ensures c.blame-index.result (λ no. (rw (c.body.ensures, codes-say a.m.now v z a.slots.now a.work.now f.c t) at c.blame-index.ensures) a.m.now v z f.c.variables t.ready (codes-good a.m.now v z a.slots.now a.work.now f.c t) t.rests (slots-seat a.m.now v z a.slots.now a.work.now f.c t) no))
