use mathlib.Core.Path.{sym, ◌∙◌}
use Rattle.search_levels.proofs.Rows.{onward-any, onward-none}
use Rattle.search_levels.proofs.onward.Goals as goal

pub returns-then-get : goal.returns-then-get
returns-then-get c = let a = c.args in rw (c.is_none.ensures, c.if-is_none.false, c.if-a.false, c.full.ensures) (onward-any a.ways.now a.row (sym c.get.ensures ∙ c.if-get.true))

pub returns : goal.returns
returns c = let a = c.args in rw (c.is_none.ensures, c.if-is_none.false, c.if-a.false) (onward-none a.ways.now a.row (sym c.get.ensures ∙ c.if-get.false))
