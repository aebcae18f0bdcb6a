use Rattle.witness_lineage.proofs.Births.{Early}
use Rattle.witness_lineage.proofs.firsts.Given as goal

abbrev pub invariant-loop-i : goal.invariant-loop-i
invariant-loop-i l = Early l.m l.fn.s l.i l.born
