use Rattle.strike_model.proofs.Laws.{Moved}
use Rattle.strike_model.proofs.strike.Given as goal

abbrev pub invariant-loop-i : goal.invariant-loop-i
invariant-loop-i l = Moved l.lines l.initial.m l.m l.kept l.i
