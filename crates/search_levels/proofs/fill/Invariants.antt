use mathlib.Core.Path.{◌≡◌}
use mathlib.Core.Logic.{◌↔◌}
use mathlib.Core.Bool.{true}
use Prim.Native.Nat.{ℕ, suc, ◌*◌, ◌<◌}
use lib.ListN.{length}
use Rattle.limits.specs.Limits as limit
use Rattle.search_levels.specs.Levels.{levels_bytes, chosen, pair_at, Passed}
use Rattle.search_levels.specs.Passing.{Over, Clear}
use Rattle.search_levels.proofs.fill.Given as goal

abbrev pub invariant-loop-k : goal.invariant-loop-k
invariant-loop-k l = (length l.rows ≡ levels_bytes) × (l.first ≡ chosen l.m 0 l.k) × (l.second ≡ chosen l.m 1 l.k) × Clear (limit.listed * suc l.k) l.rows × ((e f : ℕ) → e < limit.listed → f < limit.listed → (pair_at l.rows 0 e f ≡ true) ↔ ((e ≡ 0) × (f ≡ 0))) × Over l.work l.fn.s.count (λ S. (j : ℕ) → j < l.k → Passed l.m S l.work l.ways l.p j (pair_at l.rows j) (pair_at l.rows (suc j)))
