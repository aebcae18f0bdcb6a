use Rattle.model.specs.Records.{program_of}
use Rattle.search_states.specs.States.{row}
use Rattle.shortest_empty.proofs.Laws.{SoFar}
use Rattle.shortest_empty.proofs.nearest.Given as goal

abbrev pub invariant-loop-u : goal.invariant-loop-u
invariant-loop-u l = SoFar (program_of l.m) (row l.s) l.from l.u l.fewest l.near
