use Rattle.text_scan.proofs.Openings.{not-missing}
use Rattle.display_shapes.proofs.Laws.{not-closed, plain-found}
use Rattle.display_shapes.proofs.LiteralItem.end.Goals as goal

pub returns-in_default : goal.returns-in_default
returns-in_default c = plain-found c.args.text.now c.args.at c.in_default.ensures c.atom_end.result c.atom_end.ensures

pub returns-in_err-atom_end : goal.returns-in_err-atom_end
returns-in_err-atom_end c = rw c.from_residual.ensures (not-missing c.args.text.now c.args.at c.in-Some.ensures c.in_err-atom_end.ensures)

pub returns : goal.returns
returns c = not-closed c.args.text.now c.args.at c.in-Some.ensures c.in_ok-atom_end.ensures c.past.result c.past.ensures
