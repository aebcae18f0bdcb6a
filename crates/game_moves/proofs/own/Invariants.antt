use Rattle.search_states.specs.States.{row}
use Rattle.search_ways.specs.Moves.{Marks}
use Rattle.game_moves.specs.Own.{OwnBelow}
use Rattle.game_moves.proofs.own.Given as goal

abbrev pub invariant-loop-i : goal.invariant-loop-i
invariant-loop-i l = Marks l.moves (OwnBelow l.fn.m l.table (row l.fn.s) l.list l.i)
