use Rattle.search_ways.specs.Moves.{Marks, With}
use Rattle.game_moves.proofs.Laws.{GoesBelow}
use Rattle.game_moves.proofs.lead.Given as goal

abbrev pub invariant-loop-e : goal.invariant-loop-e
invariant-loop-e l = Marks l.moves (With l.initial.moves (GoesBelow l.table l.i l.states l.plus l.minus l.e))
