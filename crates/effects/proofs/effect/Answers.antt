use Rattle.std.proofs.Common.{rules, tests}
use Rattle.effects.proofs.Laws.{read-one, answered}
use Rattle.effects.proofs.effect.Goals as goal

pub map_or-requires : goal.map_or-requires
map_or-requires c = search (rules, read-one)

pub returns : goal.returns
returns c = let a = c.args in answered a.text.now a.line a.state c.read.result c.map_or.result _ c.read.ensures c.map_or.ensures (λ m h. search (rules, tests))
