use borrow.Author.Rules.{rules}
use borrow.Author.Tests.{tests}
use lib.ListN.{take}
use Rattle.std.specs.Prelude.{None, Some, true, false}
use Rattle.std.proofs.lemmas.Iterator.{YieldsList-from_slice, IsFirst-from_position}
use Rattle.std.proofs.lemmas.Iterator.Adapters.{serves_from_places}
use Rattle.text_names.proofs.Laws.{within-row, Named, found_name}
use Rattle.text_names.proofs.find.Goals as goal

pub position-requires-clause-callable : goal.position-requires-clause-callable
position-requires-clause-callable c =
    let d = c.args.d.now in
    serves_from_places (YieldsList-from_slice (take d.count d.names) (search rules))
    (λ x q k. search (rules, tests))
    (λ x k l e. let h = within-row c.requires k x.now l e in search rules)

pub returns-in_err-i : goal.returns-in_err-i
returns-in_err-i c =
    let d = c.args.d.now in
    let w = c.args.word.now in
    let h = found_name c.requires w None (IsFirst-from_position _ _ None (Named c.requires w true) (Named c.requires w false) c.in_err-i.ensures.ran (YieldsList-from_slice (take d.count d.names) (search rules)) (λ x q k. search (rules, tests)) (λ x q k. search (rules, tests))) in
    rw c.from_residual.ensures (tt, h)

pub returns : goal.returns
returns c =
    let d = c.args.d.now in
    let w = c.args.word.now in
    found_name c.requires w (Some c.in_ok-i.i) (IsFirst-from_position _ _ (Some c.in_ok-i.i) (Named c.requires w true) (Named c.requires w false) c.in_ok-i.ensures.ran (YieldsList-from_slice (take d.count d.names) (search rules)) (λ x q k. search (rules, tests)) (λ x q k. search (rules, tests)))
