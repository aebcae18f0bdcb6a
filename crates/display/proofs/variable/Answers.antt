use Rattle.display_parts.specs.Parts.{part_of}
use Rattle.display.proofs.Laws.{variable-found}
use Rattle.display.proofs.variable.Goals as goal

pub returns : goal.returns
returns c = let a = c.args in variable-found a.line.now (part_of a.line.now a.n) c.in_ok-p.p c.in_ok-p.ensures a.j c.variable_of.result c.variable_of.ensures
