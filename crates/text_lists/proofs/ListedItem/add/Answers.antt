use Rattle.text_lists.proofs.Laws.{listed}
use Rattle.text_lists.proofs.ListedItem.add.Goals as goal

pub returns : goal.returns
returns c = listed c.in_ok-end.ensures c.add_name.ensures
