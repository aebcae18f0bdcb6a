-- The closure answers the cells of the counts.
use mathlib.Core.Path.{◌≡◌}
use mathlib.Core.List.{[], ◌∷◌}
use Rattle.exports_tally.proofs.fn.eon_tally.map_or.Given as goal

abbrev pub ensures : goal.ensures
ensures l r = r ≡ l.c.reached ∷ l.c.unreached ∷ l.c.share ∷ l.c.remainder ∷ []
