use Rattle.display_parts.specs.Parts.{part_of}
use Rattle.display.proofs.Laws.{literal-found}
use Rattle.display.proofs.literal.Goals as goal

pub returns : goal.returns
returns c = let a = c.args in literal-found a.line.now (part_of a.line.now a.n) c.in_ok-p.p c.in_ok-p.ensures a.k c.item_at.result c.item_at.ensures
