use mathlib.Core.Path.{refl, sym, subst}
use mathlib.Core.List.{[]}
use Rattle.semantics.specs.Runs.{start}
use Rattle.model.specs.Records.{program_of, question_of}
use Rattle.replay_session.specs.declared.Answer.{Answer}
use Rattle.replay_session.specs.Replays.{Replays}
use Rattle.replay_runs.specs.Endings.{Ends}
use Rattle.explain.specs.declared.Explanation.TheVariants.{Kept, Broken}
use Rattle.explain.specs.Explains.{Tells}
use Rattle.explain.proofs.tell.Goals as goal

pub why_broken-reason-requires : goal.why_broken-reason-requires
why_broken-reason-requires c = let a = c.args in
    let e = c.in-Broken.is in
    (c.requires.0, c.requires.1, c.requires.2, subst (Replays (program_of a.m) (question_of a.m) (start []) a.run.now 0) e c.requires.3, subst (λ (y : Answer). Ends a.m a.run.now y a.ending.session) e c.requires.4)

pub returns-in-Kept : goal.returns-in-Kept
returns-in-Kept c = let a = c.args in (subst (λ (y : Answer). Tells (program_of a.m) (question_of a.m) a.run.now y Kept) (sym c.in-Kept.is) refl, refl)

pub returns-in-Broken : goal.returns-in-Broken
returns-in-Broken c = let a = c.args in let w = c.why_broken-reason in (subst (λ (y : Answer). Tells (program_of a.m) (question_of a.m) a.run.now y (Broken c.in-Broken.place w.result)) (sym c.in-Broken.is) (w.result, refl, w.ensures.0), w.ensures.1)
