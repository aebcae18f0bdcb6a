use Rattle.strike_table.proofs.Laws.{Marking}
use Rattle.strike_table.proofs.mark.Given as goal

abbrev pub invariant-loop-k : goal.invariant-loop-k
invariant-loop-k l = Marking l.n l.reached l.k l.initial.said l.said
