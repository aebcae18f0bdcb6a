use Rattle.game_rounds.specs.Board.{side_of}
use Rattle.game_rounds.proofs.Turning.{Partly}
use Rattle.game_rounds.proofs.turn.Given as goal

abbrev pub invariant-loop-e : goal.invariant-loop-e
invariant-loop-e l = Partly (side_of l.side) l.moves l.n l.initial.ranks l.others l.round l.e l.ranks l.changed
