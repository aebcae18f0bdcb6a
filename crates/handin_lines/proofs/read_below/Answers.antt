use Rattle.std.proofs.Common.{rules}
use Rattle.handin_lines.proofs.Laws.{below-said}
use Rattle.handin_lines.proofs.read_below.Goals as goal

pub returns : goal.returns
returns c = below-said c.args.line.now c.args.n c.read_number.result c.filter.result c.requires c.read_number.ensures c.filter.ensures (λ x b k. search rules)
