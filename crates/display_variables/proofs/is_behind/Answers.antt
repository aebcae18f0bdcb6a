use Rattle.std.proofs.Common.{rules}
use Rattle.display_variables.proofs.Laws.{behind-said}
use Rattle.display_variables.proofs.is_behind.Goals as goal

pub returns : goal.returns
returns c = let a = c.args in behind-said a.line.now a.i a.name.now c.requires c.spaced_end.result c.is_some_and.result c.spaced_end.ensures c.is_some_and.ensures (λ x k. search rules)
