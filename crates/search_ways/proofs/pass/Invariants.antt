use mathlib.Core.Path.{◌≡◌}
use Prim.Native.Nat.{ℕ, ◌<◌}
use lib.ListN.{length}
use Rattle.facts_bits.specs.Width as width
use Rattle.facts_bits.specs.Bits.{bit_at, in_row}
use Rattle.search_ways.specs.Moves.{matrix_bytes, Marks, With}
use Rattle.search_ways.specs.Chains.{Through}
use Rattle.search_ways.proofs.Marking.{Upto}
use Rattle.search_ways.proofs.pass.Given as goal

abbrev pub invariant-loop-e : goal.invariant-loop-e
invariant-loop-e l = (length l.ways ≡ matrix_bytes) × ((t : ℕ) → t < width.slots → bit_at l.row t ≡ in_row l.initial.ways l.k t) × Marks l.ways (With l.initial.ways (Upto l.e width.slots (Through l.initial.ways l.k)))
