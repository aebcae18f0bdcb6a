use mathlib.Core.Path.{◌≡◌}
use Prim.Native.Nat.{ℕ, ◌+◌, ◌<◌}
use Rattle.facts_candidates.specs.Choices.{chosen}
use Rattle.witness_meetings.proofs.behind.Given as goal

abbrev pub invariant-loop-x : goal.invariant-loop-x
invariant-loop-x l = (y : ℕ) → y < l.x → chosen l.r y ≡ l.base + chosen l.c y
