use mathlib.Core.Path.{◌≡◌}
use lib.ListN.{length, replicate}
use Rattle.facts_bits.specs.Width as width
use Rattle.search_ways.specs.Moves.{Marks, With, InRow}
use Rattle.search_levels.proofs.Rows.{PickedBelow}
use Rattle.search_levels.proofs.union.Given as goal

abbrev pub invariant-loop-u : goal.invariant-loop-u
invariant-loop-u l = (l.u-iterator.row ≡ l.fn.picked) × (length l.out ≡ width.bytes) × Marks l.out (With (replicate width.bytes 0) (InRow 0 width.slots (PickedBelow l.table l.at l.fn.picked l.u-iterator.at)))
