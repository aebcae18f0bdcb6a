use Prim.Native.Nat.{ℕ, ◌+◌, ◌*◌, ◌<◌}
use Rattle.limits.specs.Limits as limit
use Rattle.search_levels.specs.Levels.{Moved}
use Rattle.witness_walk.specs.Walk.{Source}
use Rattle.witness_walk.proofs.previous.Given as goal

abbrev pub invariant-loop-v : goal.invariant-loop-v
invariant-loop-v l = (w : ℕ) → w < l.v → (u : ℕ) × (u < limit.listed) × Source l.rows l.ways (limit.listed * l.k + w) l.first_stands l.first_began l.first u × Moved l.ways l.second_stands l.second_began w l.second → ⊥
