use Rattle.handin_lines.proofs.Laws.{stripped}
use Rattle.handin_lines.proofs.behind.Goals as goal

pub returns : goal.returns
returns c = stripped c.args.bytes.now c.args.line.now c.strip_prefix.result c.strip_prefix.ensures.cases
