-- WHAT IS FOUND OVER THE ROW S of the non-empty reachable states: a shortest way from state s to state t, or none.
use Rattle.std.specs.Prelude.{List, ℕ, Option, MatchOption}
use Rattle.semantics.specs.Models.{Program}
use Rattle.semantics.specs.Facts.{Database}
use Rattle.shortest_empty.specs.Emptying as empty

abbrev pub Ended : Program → Database → ℕ → ℕ → List ℕ → List ℕ → Option ℕ → Type 0
Ended P S s t run run' r = MatchOption r (empty.NoWay P S s t run run') (empty.Fewest P S s t run run')
