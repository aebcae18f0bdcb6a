use mathlib.Core.Path.{◌≡◌}
use Prim.Native.Nat.{◌+◌}
use lib.ListN.{length}
use Rattle.facts_bits.specs.Width as width
use Rattle.search_ways.specs.Moves.{matrix_bytes, Marks, With, InRow}
use Rattle.search_ways.specs.Shortest.{Joined}
use Rattle.search_ways.proofs.spread.Given as goal

abbrev pub invariant-loop-u : goal.invariant-loop-u
invariant-loop-u l = (length l.layers ≡ matrix_bytes) × Marks l.layers (With l.initial.layers (InRow (l.j + 1) width.slots (Joined l.links l.initial.layers l.u l.j)))
