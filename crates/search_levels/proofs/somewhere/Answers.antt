use mathlib.Core.Path.{◌≡◌}
use mathlib.Core.List.{List}
use Prim.Native.Nat.{ℕ}
use lib.ListN.{length}
use borrow.Author.Rules.{rules}
use borrow.Author.Tests.{tests}
use Rattle.std.proofs.lemmas.Iterator.{cases_from_any}
use Rattle.facts_bits.proofs.Walks.{YieldsList-from_slots, any-slot}
use Rattle.search_levels.specs.Passing.{Holding, Over}
use Rattle.search_levels.proofs.Aiming.{some-slot, over-said, over-denied}
use Rattle.search_levels.proofs.somewhere.Goals as goal

pub returns : goal.returns
returns c =
    let a = c.args in
    let n = length a.slots.now in
    let Here : List ℕ → ℕ → Type 0 = λ S e. Holding S a.work.now a.body.now a.variables a.c (λ σ. σ 0 ≡ e) in
    let Yes : ℕ → Type 0 = λ e. Over a.work.now n (λ S. Here S e) in
    let No : ℕ → Type 0 = λ e. Over a.work.now n (λ S. Here S e → ⊥) in
    some-slot a.work.now a.body.now a.variables a.c c.requires.1 c.requires.0.body a.row n c.requires.0.few c.any.result
    (any-slot a.row c.any.result Yes No
    (cases_from_any _ _ c.any.result Yes No c.any.ensures.ran (YieldsList-from_slots a.row _ (search rules) (search rules)) (λ x q k. search (rules, tests, over-said)) (λ x q k. search (rules, tests, over-denied))))
