use mathlib.Core.Path.{sym, ◌∙◌}
use lib.Dec.{ltb}
use lib.ListN.{length}
use borrow.Author.Tests.{ltb-false}
use Rattle.limits.specs.Limits as limit
use Rattle.semantics.proofs.Tools.{or-false}
use Rattle.text.proofs.Laws.{not-short, called-well-formed}
use Rattle.shortest.proofs.way.Goals as goal

pub decide-requires : goal.decide-requires
decide-requires c =
    let a = c.args in
    let r = c.in_ok-m.ensures in
    let l = or-false (ltb (length a.work.now) limit.work) (ltb (length a.run.now) limit.run) (sym c.short.ensures ∙ not-short a.text.now _ _ _ r) in
    (called-well-formed a.text.now _ _ _ r, ltb-false (length a.work.now) limit.work l.0, ltb-false (length a.run.now) limit.run l.1)
