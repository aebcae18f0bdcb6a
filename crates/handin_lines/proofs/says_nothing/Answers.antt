use Rattle.std.proofs.Common.{rules}
use Rattle.handin_lines.proofs.Shapes.{silent-states, silent-atomic}
use Rattle.handin_lines.proofs.says_nothing.Goals as goal

pub returns-then-is_some_and : goal.returns-then-is_some_and
returns-then-is_some_and c = silent-states c.args.line.now c.behind.result c.behind.ensures c.is_some_and.ensures (λ x k. search rules) c.if-is_some_and.true

pub returns-else-is_some_and : goal.returns-else-is_some_and
returns-else-is_some_and c =
    silent-atomic c.args.line.now c.behind.result c.behind-else-is_some_and.result c.behind.ensures c.is_some_and.ensures (λ x k. search rules) c.if-is_some_and.false
    c.behind-else-is_some_and.ensures c.is_some_and-else-is_some_and.ensures (λ x k. search rules)
