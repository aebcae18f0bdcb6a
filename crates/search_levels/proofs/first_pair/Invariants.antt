use mathlib.Core.Path.{◌≡◌}
use mathlib.Core.Bool.{true}
use Prim.Native.Nat.{ℕ, ◌<◌}
use Rattle.limits.specs.Limits as limit
use Rattle.search_levels.specs.Levels.{pair_at}
use Rattle.search_levels.proofs.first_pair.Given as goal

abbrev pub invariant-loop-f : goal.invariant-loop-f
invariant-loop-f l = (g : ℕ) → g < l.f → (e : ℕ) × (e < limit.listed) × (pair_at l.rows l.k e g ≡ true) → ⊥
