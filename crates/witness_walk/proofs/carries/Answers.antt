use mathlib.Core.Path.{◌≡◌, refl}
use mathlib.Core.Bool.{true, false}
use borrow.Author.Rules.{rules}
use borrow.Author.Tests.{tests}
use Rattle.std.proofs.lemmas.Iterator.{YieldsList-from_range, cases_from_any}
use Rattle.search_levels.specs.Levels.{holder}
use Rattle.witness_walk.proofs.Pairs.{chosen-any}
use Rattle.witness_walk.proofs.carries.Goals as goal

pub returns : goal.returns
returns c =
    let a = c.args in
    chosen-any a.m a.v a.k c.any.result (cases_from_any _ _ c.any.result (λ i. holder a.m a.v i ≡ true) (λ i. holder a.m a.v i ≡ false) c.any.ensures.ran (YieldsList-from_range 0 a.k _ refl refl) (λ x q h. search (rules, tests)) (λ x q h. search (rules, tests)))
