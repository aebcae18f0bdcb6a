use Rattle.std.proofs.Common.{rules, tests}
use Rattle.model.proofs.Accepted.{line-by-clause}
use Rattle.game_lists.specs.Lists.{is_next}
use Rattle.game_lists.proofs.next_line.Goals as goal

pub returns : goal.returns
returns c = let a = c.args in line-by-clause is_next a.m c.requires a.line c.clause_on.result c.is_some_and.result _ c.clause_on.ensures c.is_some_and.ensures (λ d e b. search (rules, tests))
