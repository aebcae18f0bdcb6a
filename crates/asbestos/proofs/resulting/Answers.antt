-- `resulting` meets its contract: the code's table is that of the definitions.
use mathlib.Core.Path.{refl}
use Rattle.asbestos.specs.Messages.{resulting_level}
use Rattle.asbestos.proofs.resulting.Goals as goal

pub returns : goal.returns
unfolding resulting_level
returns c = refl
