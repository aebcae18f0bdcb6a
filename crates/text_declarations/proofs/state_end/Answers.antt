-- state_end
use mathlib.Core.Path.{refl}
use Rattle.grammar.specs.Shapes.{state_rest}
use Rattle.text_declarations.proofs.Laws.{state-chosen}
use Rattle.text_declarations.proofs.state_end.Goals as goal

pub returns-in_err-e : goal.returns-in_err-e
unfolding state_rest
returns-in_err-e c = rw c.from_residual.ensures (rw c.in_err-e.ensures)

pub returns-in_err-end : goal.returns-in_err-end
unfolding state_rest
returns-in_err-end c = let x = c.in_ok-e.ensures in rw c.from_residual-in_err-end.ensures (rw (x.read, c.in_err-end.ensures))

pub returns : goal.returns
returns c = rw c.then_some.ensures (state-chosen c.in_ok-e.ensures c.in_ok-end.ensures _ refl)
