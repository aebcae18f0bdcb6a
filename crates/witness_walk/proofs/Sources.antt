-- The search for a pair of the level before.
use mathlib.Core.Path.{◌≡◌}
use mathlib.Core.Bool.{Bool}
use mathlib.Core.List.{List}
use Prim.Native.Nat.{ℕ, ◌+◌, ◌*◌, ◌≤◌, ◌<◌}
use native.Mathlib.Omega.{arith}
use Rattle.std.specs.Prelude as prelude
use Rattle.std.specs.Option.{MatchOption}
use Rattle.limits.specs.Limits as limit
use Rattle.model.specs.declared.Model.{Model}
use Rattle.search_levels.specs.Levels.{holder, chosen, Moved}
use Rattle.witness_walk.specs.Walk.{LeadsTo, Source}

-- what a search over the slots found
pub listed_slot : (P : ℕ → Type 0) (o : prelude.Option ℕ)
    → MatchOption o ((k : ℕ) → 0 ≤ k → k < limit.listed → P k → ⊥) (λ i. (0 ≤ i) × (i < limit.listed) × P i × ((k : ℕ) → 0 ≤ k → k < i → P k → ⊥))
    → MatchOption o ((u : ℕ) → u < limit.listed → P u → ⊥) (λ u. (u < limit.listed) × P u)
listed_slot P prelude.None h = λ u l. h u (omega arith) l
listed_slot P (prelude.Some u) h = (h.1, h.2)

-- a pair that leads on: slot v of the second object is tried first, and then a slot of its row
module _ (m : Model) (rows ways : List ℕ) (k e f : ℕ) (first-stands second-stands first-began second-began : Bool) (first : first-stands ≡ holder m 0 k) (second : second-stands ≡ holder m 1 k) (before : first-began ≡ chosen m 0 k) (before' : second-began ≡ chosen m 1 k) (u v : ℕ) where
  pub pair_found : LeadsTo m rows ways k e f u v → Source rows ways (limit.listed * k + v) first-stands first-began e u × Moved ways second-stands second-began v f
  pair_found leads = rw (first, second, before, before') ((leads.0.2, leads.1), leads.2)
