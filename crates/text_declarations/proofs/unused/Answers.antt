use mathlib.Core.Path.{◌∙◌}
use Rattle.text_names.specs.Names.{declared_of}
use Rattle.text_declarations.proofs.Laws.{taken}
use Rattle.text_declarations.proofs.unused.Goals as goal

pub returns-then-is_some : goal.returns-then-is_some
returns-then-is_some c = rw (taken (declared_of c.args.text.now c.args.d.now) c.args.word.now c.find.result c.find.ensures.1 c.is_some.ensures ∙ c.if-is_some.true)

pub returns : goal.returns
returns c = rw (taken (declared_of c.args.text.now c.args.d.now) c.args.word.now c.find.result c.find.ensures.1 c.is_some.ensures ∙ c.if-is_some.false)
