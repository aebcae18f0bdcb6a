use mathlib.Core.Path.{sym, ◌∙◌}
use lib.Dec.{ltb}
use lib.ListN.{length}
use borrow.Author.Tests.{ltb-false}
use Rattle.limits.specs.Limits as limit
use Rattle.semantics.proofs.Tools.{or-false}
use Rattle.text.proofs.Laws.{not-short, called-well-formed}
use Rattle.calls.specs.Calls.{short}
use Rattle.marker.proofs.mark.Goals as goal

pub mark_model-requires : goal.mark_model-requires
mark_model-requires c =
    let a = c.args in
    let r = c.in_ok-m.ensures in
    let l = or-false (short (length a.work.now) (length a.run.now)) (ltb (length a.stood.now) limit.run) (sym c.short-short.ensures ∙ not-short a.text.now _ _ _ r) in
    let k = or-false (ltb (length a.work.now) limit.work) (ltb (length a.run.now) limit.run) l.0 in (
      called-well-formed a.text.now _ _ _ r,
      ltb-false (length a.work.now) limit.work k.0,
      ltb-false (length a.run.now) limit.run k.1,
      ltb-false (length a.stood.now) limit.run l.1,
    )
