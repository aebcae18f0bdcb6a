use mathlib.Core.Path.{◌≡◌}
use lib.ListN.{length}
use Rattle.search_states.specs.States.{row}
use Rattle.search_ways.specs.Moves.{matrix_bytes, Marks}
use Rattle.search_ways.proofs.Stepping.{LedTo}
use Rattle.search_ways.proofs.steps.Given as goal

abbrev pub invariant-loop-i : goal.invariant-loop-i
invariant-loop-i l = (length l.ways ≡ matrix_bytes) × Marks l.ways (LedTo l.m (row l.fn.s) l.fn.s.count l.table l.i)
