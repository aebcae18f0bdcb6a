use Prim.Native.Nat.{◌+◌, ◌≤◌}
use lib.ListN.{length}
use Rattle.model.specs.declared.Model.{Model}
use Rattle.witness_lineage.specs.Lineage.{building, Ancestry}
use Rattle.witness_lineage.proofs.Making.{Built}
use Rattle.witness_lineage.proofs.build.Given as goal

abbrev pub invariant-loop-n : goal.invariant-loop-n
invariant-loop-n l =
    (m : Model) → Ancestry m l.s l.born → l.k + length (building m l.s l.base l.s.count) ≤ length l.initial.run → Built m l.s l.base l.k l.initial.run l.run l.n l.at
