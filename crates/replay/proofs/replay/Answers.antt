use mathlib.Core.Path.{sym, ◌∙◌}
use lib.Dec.{ltb}
use lib.ListN.{length}
use borrow.Author.Tests.{ltb-false}
use Rattle.limits.specs.Limits as limit
use Rattle.semantics.proofs.Tools.{or-false}
use Rattle.text.proofs.Laws.{not-short, not-long, called-well-formed}
use Rattle.replay.proofs.replay.Goals as goal

pub replay_model-requires : goal.replay_model-requires
replay_model-requires c =
    let a = c.args in
    let r = c.in_ok-m.ensures in
    let l = or-false (ltb (length a.work.now) limit.work) (ltb (length a.table.now) limit.run) (sym c.short-short.ensures ∙ not-short a.text.now _ _ _ r) in (
      called-well-formed a.text.now _ _ _ r,
      ltb-false limit.run (length a.run.now) (not-long a.text.now _ _ _ r),
      ltb-false (length a.work.now) limit.work l.0,
      ltb-false (length a.table.now) limit.run l.1,
    )
