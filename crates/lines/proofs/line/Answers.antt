use Rattle.std.proofs.Common.{rules, tests}
use Rattle.lines.proofs.Laws.{read-part, answered}
use Rattle.lines.proofs.line.Goals as goal

pub map_or-requires : goal.map_or-requires
map_or-requires c = search (rules, read-part)

pub returns : goal.returns
returns c = let a = c.args in answered a.text.now a.i c.read.result c.map_or.result _ c.read.ensures c.map_or.ensures (λ m h. search (rules, tests))
