use Prim.Native.Nat.{◌<◌}
use lib.ListN.{length}
use Rattle.model.specs.declared.Model.{Model}
use Rattle.witness_lineage.specs.Lineage.{Ancestry, Makes}
use Rattle.witness_lineage.proofs.Making.{Made}
use Rattle.witness_lineage.proofs.trace.Given as goal

abbrev pub invariant-loop-i : goal.invariant-loop-i
invariant-loop-i l =
    (l.at < length l.run) × (l.i < length l.s.arrivals) × (l.i < length l.born)
    × ((m : Model) → Ancestry m l.s l.born → Makes m l.s l.state l.k l.initial.run → Made m l.s l.state l.object l.k l.initial.run l.run l.i l.at)

abbrev pub decreases-loop-i : goal.decreases-loop-i
decreases-loop-i l = l.i
