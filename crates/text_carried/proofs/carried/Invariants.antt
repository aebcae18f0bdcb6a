use Rattle.text_carried.proofs.Collecting.{Collected}
use Rattle.text_carried.proofs.carried.Given as goal

abbrev pub invariant-loop-i : goal.invariant-loop-i
invariant-loop-i l = Collected l.fn.t l.cells l.found l.i
