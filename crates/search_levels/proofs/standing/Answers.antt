use mathlib.Core.Path.{refl}
use Rattle.search_levels.proofs.Stages.{seat-place}
use Rattle.search_levels.proofs.standing.Goals as goal

pub returns : goal.returns
returns c = rw (seat-place c.args.stage c.args.x c.seat.result c.requires c.seat.ensures) refl
