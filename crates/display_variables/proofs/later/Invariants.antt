-- So many variables stand before byte i.
use Rattle.display_variables.proofs.Laws.{Counted}
use Rattle.display_variables.proofs.later.Given as goal

abbrev pub invariant-loop-i : goal.invariant-loop-i
invariant-loop-i l = Counted l.line l.p l.j l.i l.count
