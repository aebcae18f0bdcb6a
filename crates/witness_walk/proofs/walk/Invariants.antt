use Prim.Native.Nat.{◌≤◌}
use Rattle.witness_walk.specs.Walk.{Behind}
use Rattle.witness_walk.proofs.walk.Given as goal

abbrev pub invariant-loop-k : goal.invariant-loop-k
invariant-loop-k l = (l.until ≤ l.k) × Behind l.m l.s l.cast l.until l.rows l.initial.run l.run l.k l.p.pair.first l.p.pair.second l.p.at
