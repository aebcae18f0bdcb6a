use Rattle.std.proofs.Common.{rules, tests}
use Rattle.model.proofs.Accepted.{line-by-clause}
use Rattle.witness_lineage.specs.Lineage.{is_new}
use Rattle.witness_lineage.proofs.creates.Goals as goal

pub returns : goal.returns
returns c = let m = c.args.m.now in line-by-clause is_new m c.requires c.args.line c.clause_on.result c.is_some_and.result _ c.clause_on.ensures c.is_some_and.ensures (λ d e b. search (rules, tests))
