use mathlib.Core.Path.{ap, ◌∙◌, subst}
use mathlib.Core.List.{[]}
use native.Mathlib.Omega.{arith}
use lib.ListN.{length}
use Rattle.semantics.specs.Runs.{start}
use Rattle.model.specs.Records.{program_of, question_of}
use Rattle.calls.specs.Wiping.{wiped}
use Rattle.calls.proofs.Wiped.{length-wiped}
use Rattle.replay_session.specs.declared.Answer.{Answer}
use Rattle.replay_session.specs.Replays.{Replays}
use Rattle.marker_worth.specs.Worth.{BreaksAt}
use Rattle.marker_worth.proofs.Laws.{plays, breaks, within, wiped-twice}
use Rattle.marker_worth.proofs.mark_run.Goals as goal

pub mark_broken-requires : goal.mark_broken-requires
mark_broken-requires c =
    let r = c.replay_model in
    let a = c.args in
    let h = subst (λ (x : Answer). Replays (program_of a.m) (question_of a.m) (start []) a.run.now 0 x) c.in-Broken.is r.ensures.0 in
    let l = within (program_of a.m) (question_of a.m) (start []) a.run.now c.in-Broken.place h in
    let e = ap length r.ensures.2 ∙ length-wiped a.work.now c.requires.3 in
    (c.requires.0, omega (arith, c.requires.1, l), omega (arith, c.requires.3, e))

pub returns-in-Broken : goal.returns-in-Broken
returns-in-Broken c =
    let r = c.replay_model in
    let b = c.mark_broken in
    let a = c.args in
    let h = subst (λ (x : Answer). Replays (program_of a.m) (question_of a.m) (start []) a.run.now 0 x) c.in-Broken.is r.ensures.0 in (
      (λ ps d. b.ensures.0 ps (let k = breaks (program_of a.m) (question_of a.m) (start []) a.run.now ps 0 c.in-Broken.place d h in subst (BreaksAt (program_of a.m) (question_of a.m) (start []) ps) (omega (arith, k.1)) k.2)),
      r.ensures.1,
      b.ensures.1 ∙ ap wiped r.ensures.2 ∙ wiped-twice a.work.now,
    )

pub returns-in-Kept : goal.returns-in-Kept
returns-in-Kept c =
    let r = c.replay_model in
    let a = c.args in
    let h = subst (λ (x : Answer). Replays (program_of a.m) (question_of a.m) (start []) a.run.now 0 x) c.in-Kept.is r.ensures.0 in
    ((λ ps d. plays (program_of a.m) (question_of a.m) (start []) a.run.now ps 0 d h), r.ensures.1, r.ensures.2)
