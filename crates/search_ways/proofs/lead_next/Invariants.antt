use mathlib.Core.Path.{◌≡◌}
use lib.ListN.{length}
use Rattle.model.specs.declared.Action.TheVariants.{Next}
use Rattle.search_ways.specs.Moves.{matrix_bytes, Marks, With}
use Rattle.search_ways.specs.Steps.{Led}
use Rattle.search_ways.proofs.Marking.{Upto}
use Rattle.search_ways.proofs.lead_next.Given as goal

abbrev pub invariant-loop-e : goal.invariant-loop-e
invariant-loop-e l = (length l.ways ≡ matrix_bytes) × Marks l.ways (With l.initial.ways (Upto l.e (length l.states) (Led l.table l.i l.states (Next l.plus l.minus))))
