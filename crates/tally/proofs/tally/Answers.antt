use Rattle.strike_calls.specs.Calls.{asked}
use Rattle.tally.proofs.Laws.{total-sizes}
use Rattle.tally.proofs.tally.Goals as goal

pub conclude-requires : goal.conclude-requires
conclude-requires c =
    let a = c.args in
    total-sizes a.list.now a.work.now _ (asked a.text.now a.list.now a.work.now) _ c.in_ok-choices.ensures
