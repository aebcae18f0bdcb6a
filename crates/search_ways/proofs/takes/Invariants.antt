use mathlib.Core.Path.{◌≡◌}
use lib.ListN.{length}
use Rattle.search_ways.specs.Moves.{table_bytes, Marks}
use Rattle.search_ways.proofs.Table.{Below}
use Rattle.search_ways.proofs.takes.Given as goal

abbrev pub invariant-loop-i : goal.invariant-loop-i
invariant-loop-i l = (length l.table ≡ table_bytes) × Marks l.table (Below l.m l.work l.i)
