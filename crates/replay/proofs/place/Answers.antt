use lib.ListN.{length}
use borrow.Author.Tests.{ltb-false, eqb-false}
use Rattle.limits.specs.Limits as limit
use Rattle.text.proofs.Laws.{not-short, not-long, called-well-formed}
use Rattle.replay.proofs.Laws.{declared-states}
use Rattle.replay.proofs.place.Goals as goal

pub place_model-requires : goal.place_model-requires
place_model-requires c =
    let a = c.args in
    let r = c.in_ok-m.ensures in (
      called-well-formed a.text.now _ _ _ r,
      eqb-false a.s.kept limit.run (not-long a.text.now _ _ _ r),
      ltb-false (length a.work.now) limit.work (not-short a.text.now _ _ _ r),
    )

pub returns : goal.returns
returns c =
    let r = c.in_ok-m.ensures in
    let p = c.place_model.ensures in
    rw r.says (rw (← declared-states c.args.text.now _ _ _ r) p.0, p.1)
