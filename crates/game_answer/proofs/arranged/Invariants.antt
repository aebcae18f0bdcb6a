use Rattle.search_states.specs.States.{row}
use Rattle.game_answer.specs.Arranging.{Arranged}
use Rattle.game_answer.proofs.arranged.Given as goal

abbrev pub invariant-loop-i : goal.invariant-loop-i
invariant-loop-i l = Arranged (row l.s) l.fn.listing.states l.i l.ranks l.moves
