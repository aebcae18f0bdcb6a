use Rattle.text_scan.proofs.Openings.{atom-unopened, atom-nameless}
use Rattle.display_shapes.proofs.Laws.{atom-found}
use Rattle.display_shapes.proofs.atom_end.Goals as goal

pub returns-in_err-past : goal.returns-in_err-past
returns-in_err-past c = rw c.from_residual.ensures (atom-unopened c.args.text.now c.args.at c.in_err-past.ensures)

pub returns-in_err-e : goal.returns-in_err-e
returns-in_err-e c = rw c.from_residual-in_err-e.ensures (atom-nameless c.args.text.now c.args.at c.in_ok-past.ensures c.in_err-e.ensures)

pub returns : goal.returns
returns c = atom-found c.args.text.now c.args.at c.in_ok-past.ensures c.in_ok-e.ensures c.items_end.result c.items_end.ensures
