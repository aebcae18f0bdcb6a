use Rattle.std.proofs.Common.{rules, tests}
use Rattle.effects.proofs.Laws.{found-made}
use Rattle.effects.proofs.on_line.Goals as goal

pub returns : goal.returns
returns c = let a = c.args in found-made a.m.now c.requires a.line a.state c.clause_on.result c.map_or.result _ c.clause_on.ensures c.map_or.ensures (λ d h. search (rules, tests))
