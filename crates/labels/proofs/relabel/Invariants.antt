-- `labels::relabel` meets its contract: relation by relation.
use Rattle.semantics.specs.Labels.{relabel}
use Rattle.labels.proofs.Laws.{Done}
use Rattle.labels.proofs.relabel.Given as goal

abbrev pub invariant-loop-relation : goal.invariant-loop-relation
invariant-loop-relation l = Done (relabel l.state l.plus l.minus) l.relation l.after
