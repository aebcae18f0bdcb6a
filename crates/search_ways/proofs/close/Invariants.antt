use mathlib.Core.Path.{◌≡◌}
use lib.ListN.{length}
use Rattle.search_ways.specs.Moves.{matrix_bytes, Marks}
use Rattle.search_ways.proofs.Closing.{Via}
use Rattle.search_ways.proofs.close.Given as goal

abbrev pub invariant-loop-k : goal.invariant-loop-k
invariant-loop-k l = (length l.ways ≡ matrix_bytes) × Marks l.ways (Via l.initial.ways l.k)
