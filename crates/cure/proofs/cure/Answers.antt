use Rattle.strike_calls.specs.Calls.{asked}
use Rattle.cure.proofs.Laws.{choice-sizes}
use Rattle.cure.proofs.cure.Goals as goal

pub conclude-requires : goal.conclude-requires
conclude-requires c =
    let a = c.args in
    choice-sizes a.list.now a.work.now _ (asked a.text.now a.list.now a.work.now) _ c.in_ok-choices.ensures
