-- The closure answers the cells of the numbers of moves.
use mathlib.Core.Path.{◌≡◌}
use Rattle.exports_game.proofs.fn.eon_game.map_or+2.Given as goal

abbrev pub ensures : goal.ensures
ensures l r = r ≡ l.g.moves
