use Rattle.std.proofs.Common.{rules}
use Rattle.grammar.specs.Shapes.{rest}
use Rattle.display_parts.proofs.Laws.{closes-said}
use Rattle.display_parts.proofs.closes.Goals as goal

pub returns : goal.returns
returns g c = closes-said (rest g.T.Item.read c.args.n) c.args.line.now c.args.at c.items_end.result c.is_some_and.result c.items_end.ensures c.is_some_and.ensures (λ x k. search rules)
