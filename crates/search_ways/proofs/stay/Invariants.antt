use mathlib.Core.Path.{◌≡◌}
use Prim.Native.Nat.{ℕ}
use lib.ListN.{length}
use Rattle.search_ways.specs.Moves.{matrix_bytes, Marks, With}
use Rattle.search_ways.proofs.Marking.{Upto}
use Rattle.search_ways.proofs.stay.Given as goal

abbrev pub invariant-loop-e : goal.invariant-loop-e
invariant-loop-e l = (length l.ways ≡ matrix_bytes) × Marks l.ways (With l.initial.ways (Upto l.e l.n (λ (k t : ℕ). k ≡ t)))
