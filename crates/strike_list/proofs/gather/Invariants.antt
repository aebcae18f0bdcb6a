use Rattle.strike_list.specs.Lists.{named}
use Rattle.strike_list.proofs.Records.{Holds}
use Rattle.strike_list.proofs.Gathering.{begun}
use Rattle.strike_list.proofs.gather.Given as goal

abbrev pub invariant-loop-c : goal.invariant-loop-c
invariant-loop-c l = Holds l.found.lines l.found.count (named (begun l.fn.m l.c-index) l.list)
