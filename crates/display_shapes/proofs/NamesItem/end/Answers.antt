use Rattle.text_scan.proofs.Openings.{list-unopened, list-nameless}
use Rattle.display_shapes.proofs.Laws.{list-empty, list-found}
use Rattle.display_shapes.proofs.NamesItem.end.Goals as goal

pub returns-in-Some : goal.returns-in-Some
returns-in-Some c = list-empty c.args.text.now c.args.at c.in-Some.ensures

pub returns-in_err-past : goal.returns-in_err-past
returns-in_err-past c = rw c.from_residual.ensures (list-unopened c.args.text.now c.args.at c.in_default.ensures c.in_err-past.ensures)

pub returns-in_err-e : goal.returns-in_err-e
returns-in_err-e c = rw c.from_residual-in_err-e.ensures (list-nameless c.args.text.now c.args.at c.in_default.ensures c.in_ok-past.ensures c.in_err-e.ensures)

pub returns : goal.returns
returns c = list-found c.args.text.now c.args.at c.in_default.ensures c.in_ok-past.ensures c.in_ok-e.ensures c.items_end.result c.items_end.ensures
