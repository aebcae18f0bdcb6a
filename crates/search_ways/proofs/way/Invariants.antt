use mathlib.Core.Path.{◌≡◌}
use Prim.Native.Nat.{◌<◌}
use lib.ListN.{length, drop}
use lib.Seq.{slice}
use Rattle.semantics.specs.Facts.{state}
use Rattle.semantics.specs.Walkers.{Way}
use Rattle.model.specs.Records.{program_of}
use Rattle.search_states.specs.States.{row}
use Rattle.search_ways.specs.Shortest.{Near, NotBefore}
use Rattle.search_ways.proofs.way.Given as goal

abbrev pub invariant-loop-j : goal.invariant-loop-j
invariant-loop-j l = (l.t < l.n) × Near l.steps l.n l.j l.from l.t × NotBefore l.steps l.n l.j l.from l.t × (length l.out ≡ length l.initial.out) × Way (program_of l.m) (row l.s) (state (row l.s) l.t) (slice l.j l.k l.out) (state (row l.s) l.to) × (drop l.k l.out ≡ drop l.k l.initial.out)
