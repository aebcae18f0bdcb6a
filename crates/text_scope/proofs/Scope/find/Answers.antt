use borrow.Author.Rules.{rules}
use borrow.Author.Tests.{tests}
use lib.ListN.{take}
use Rattle.std.specs.Prelude.{true, false}
use Rattle.std.proofs.lemmas.Iterator.{YieldsList-from_slice, IsFirst-from_position}
use Rattle.std.proofs.lemmas.Iterator.Adapters.{serves_from_places}
use Rattle.text_scope.proofs.Laws.{within-row, Named, found_variable}
use Rattle.text_scope.proofs.Scope.find.Goals as goal

pub position-requires-clause-callable : goal.position-requires-clause-callable
position-requires-clause-callable g c =
    let s = c.args.self.now in
    serves_from_places (YieldsList-from_slice (take s.count s.variables) (search rules))
    (λ x q k. search (rules, tests))
    (λ x k l e. let h = within-row c.requires k x.now l e in search rules)

pub returns : goal.returns
returns g c =
    let s = c.args.self.now in
    let w = c.args.word.now in
    found_variable c.requires w c.position.result (IsFirst-from_position _ _ c.position.result (Named c.requires w true) (Named c.requires w false) c.position.ensures.ran (YieldsList-from_slice (take s.count s.variables) (search rules)) (λ x q k. search (rules, tests)) (λ x q k. search (rules, tests)))
