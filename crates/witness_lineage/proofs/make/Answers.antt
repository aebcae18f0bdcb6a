use Rattle.witness_lineage.specs.Lineage.{Ancestry}
use Rattle.witness_lineage.proofs.make.Goals as goal
use Rattle.witness_lineage.proofs.make.Goals.{After-firsts-born}

ancestry : (c : After-firsts-born) → Ancestry c.args.m c.args.s c.firsts-born.result
ancestry c = let p = c.requires in record { model = p.0; proper = p.1; found = p.2; born = c.firsts-born.ensures }

pub returns : goal.returns
returns c =
    let p = c.requires in c.trace.ensures c.args.m (ancestry (goal.at.returns c).After-firsts-born) (p.3, p.5)
