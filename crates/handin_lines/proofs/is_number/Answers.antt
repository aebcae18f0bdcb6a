use Rattle.std.proofs.Common.{rules}
use Rattle.handin_lines.proofs.Laws.{states-said}
use Rattle.handin_lines.proofs.is_number.Goals as goal

pub returns : goal.returns
returns c = states-said c.args.line.now c.read_number.result c.is_some_and.result c.read_number.ensures c.is_some_and.ensures (λ n k. search rules)
