use Rattle.handin_lines.proofs.Laws.{object-found, object-missing}
use Rattle.handin_lines.proofs.read_object.Goals as goal

pub returns-in_err-rest : goal.returns-in_err-rest
returns-in_err-rest c = rw c.from_residual.ensures (object-missing c.args.line.now c.in_err-rest.ensures)

pub returns : goal.returns
returns c = object-found c.args.line.now c.read_below.result c.in_ok-rest.ensures c.read_below.ensures
