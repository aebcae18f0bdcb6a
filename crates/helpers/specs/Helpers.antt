-- HELPERS (document 02, R-12 and R-13): one object is led, "with one further object of every reachable atomic state standing by and never changed".
use Rattle.std.specs.Prelude.{◌≡◌, ◌↔◌, true, List, [], ◌∷◌, ◌++◌, ℕ, length}
use Rattle.semantics.specs.Models.{elem, Program, Distinct}
use Rattle.semantics.specs.Facts.{Database}
use Rattle.semantics.specs.Steps.{Steps, Reachable}
use Rattle.semantics.specs.Building.{with}

-- A ROW OF HELPERS: one object of every reachable state, the empty one too where it is reachable
pub record Helpers (P : Program) (H : Database) : Type 0 where
  pub one : Distinct H
  pub each : (t : ℕ) → Reachable P t ↔ (elem t H ≡ true)

-- IT IS SO BESIDE THE HELPERS, in whatever order they stand; and there is such a row of helpers
pub record Helped (P : Program) (R : Database → Type 0) : Type 0 where
  pub row : Database
  pub helpers : Helpers P row
  pub so : (H : Database) → Helpers P H → R H

-- the helpers, and behind them the object, of state s: its number is the length of H
abbrev pub beside : Database → ℕ → Database
beside H s = H ++ (s ∷ [])

-- A WAY BESIDE THE HELPERS: the lines are allowed one after the other for the object and lead it from state s to state t, and the helpers are then as they were
abbrev pub Leads : Program → Database → ℕ → List ℕ → ℕ → Type 0
Leads P H s ls t = Steps P (beside H s) (with (length H) ls) (beside H t)
