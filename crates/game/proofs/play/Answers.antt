use lib.ListN.{length}
use borrow.Author.Tests.{ltb-false}
use Rattle.limits.specs.Limits as limit
use Rattle.text.proofs.Laws.{not-short, called-well-formed}
use Rattle.game.proofs.play.Goals as goal

pub decide-requires : goal.decide-requires
decide-requires c =
    let a = c.args in
    let r = c.in_ok-m.ensures in
    (called-well-formed a.text.now _ _ _ r, ltb-false (length a.work.now) limit.work (not-short a.text.now _ _ _ r))
