use borrow.Author.Rules.{rules}
use borrow.Author.Tests.{tests}
use Rattle.std.proofs.lemmas.Iterator.{first_from_Range}
use Rattle.witness_walk.specs.Walk.{Source}
use Rattle.search_ways.proofs.Nearest.{said, denied}
use Rattle.witness_walk.proofs.Sources.{listed_slot}
use Rattle.witness_walk.proofs.source.Goals as goal

pub returns : goal.returns
returns c =
    let a = c.args in
    listed_slot _ c.find.result (first_from_Range _ _ _ c.find.result (λ u. Source a.rows.now a.ways.now a.j a.stands a.began a.e u) (λ u. Source a.rows.now a.ways.now a.j a.stands a.began a.e u → ⊥) c.find.ensures.ran (λ x q k. search (rules, tests, said)) (λ x q k. search (rules, tests, denied)))
