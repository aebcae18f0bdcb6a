-- The closure answers the cells of the states.
use mathlib.Core.Path.{◌≡◌}
use Rattle.exports_game.proofs.fn.eon_game.map_or.Given as goal

abbrev pub ensures : goal.ensures
ensures l r = r ≡ l.g.states
