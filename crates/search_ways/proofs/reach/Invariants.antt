use mathlib.Core.Path.{◌≡◌}
use lib.ListN.{length}
use Rattle.search_ways.specs.Moves.{matrix_bytes, Marks}
use Rattle.search_ways.specs.Shortest.{NotBefore, Layers}
use Rattle.search_ways.proofs.reach.Given as goal

abbrev pub invariant-loop-j : goal.invariant-loop-j
invariant-loop-j l = (length l.layers ≡ matrix_bytes) × Marks l.layers (Layers l.links l.n l.from l.j) × NotBefore l.links l.n l.j l.from l.to
