-- rel_end
use mathlib.Core.Path.{refl}
use Rattle.grammar.specs.Shapes.{rel_rest}
use Rattle.text_declarations.proofs.Laws.{rel-unclosed, rel-chosen}
use Rattle.text_declarations.proofs.rel_end.Goals as goal

pub returns-in_err-e : goal.returns-in_err-e
unfolding rel_rest
returns-in_err-e c = rw c.from_residual.ensures (rw c.in_err-e.ensures)

pub returns-in_err-digit : goal.returns-in_err-digit
unfolding rel_rest
returns-in_err-digit c = let x = c.in_ok-e.ensures in rw c.from_residual-in_err-digit.ensures (rw (x.read, c.in_err-digit.ensures))

pub returns-in_err-n : goal.returns-in_err-n
unfolding rel_rest
returns-in_err-n c = let x = c.in_ok-e.ensures in rw c.from_residual-in_err-n.ensures (rw (x.read, c.in_ok-digit.ensures.read, c.in_err-n.ensures))

pub returns-in_err-end : goal.returns-in_err-end
returns-in_err-end c = rw c.from_residual-in_err-end.ensures (rel-unclosed c.in_ok-e.ensures c.in_ok-digit.ensures c.in_ok-n.ensures c.in_err-end.ensures)

pub returns : goal.returns
returns c = rw c.then_some.ensures (rel-chosen c.in_ok-e.ensures c.in_ok-digit.ensures c.in_ok-n.ensures c.in_ok-end.ensures _ refl)
