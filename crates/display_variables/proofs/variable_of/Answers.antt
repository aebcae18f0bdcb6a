use Rattle.display_variables.proofs.Laws.{head_first}
use Rattle.display_variables.proofs.variable_of.Goals as goal

pub returns-then-j-eq0 : goal.returns-then-j-eq0
returns-then-j-eq0 c = let a = c.args in head_first a.line.now a.p _ a.j c.requires c.in-Some.is c.if-j-eq0.true
