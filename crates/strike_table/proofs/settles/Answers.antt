use mathlib.Core.Path.{refl}
use Rattle.strike_table.specs.Tables.{settled}
use Rattle.strike_table.proofs.settles.Goals as goal

pub returns-then-reached : goal.returns-then-reached
unfolding settled
returns-then-reached c = rw c.if-reached.true refl

pub returns-else-reached : goal.returns-else-reached
unfolding settled
returns-else-reached c = rw c.if-reached.false refl
