use mathlib.Core.Path.{◌≡◌}
use mathlib.Core.Bool.{true}
use Prim.Native.Nat.{◌<◌}
use lib.ListN.{length, replicate}
use Rattle.limits.specs.Limits as limit
use Rattle.facts_bits.specs.Width as width
use Rattle.facts_bits.specs.Bits.{in_row}
use Rattle.search_ways.specs.Moves.{matrix_bytes, Marks, With, InRow}
use Rattle.search_levels.proofs.column.Given as goal

abbrev pub invariant-loop-u : goal.invariant-loop-u
invariant-loop-u l = (length l.ways ≡ matrix_bytes) × (l.f < limit.listed) × (length l.out ≡ width.bytes) × Marks l.out (With (replicate width.bytes 0) (InRow 0 l.u (λ t. in_row l.ways t l.f ≡ true)))
