use mathlib.Core.Path.{refl}
use native.Mathlib.Omega.{arith}
use borrow.Author.Rules.{rules}
use borrow.Author.Tests.{tests}
use Rattle.std.proofs.lemmas.Iterator.{YieldsList-from_range, cases_from_any}
use Rattle.facts_candidates.specs.Choices.{element_of}
use Rattle.reasons.specs.Reasons.{Absent}
use Rattle.reasons.proofs.Ranges.{any_below}
use Rattle.reasons.proofs.beyond.Goals as goal

pub returns : goal.returns
returns c =
    let a = c.args in
    any_below a.n (λ x. Absent (element_of a.c x) a.objects) c.any.result
    (cases_from_any _ _ c.any.result (λ x. Absent (element_of a.c x) a.objects) (λ x. Absent (element_of a.c x) a.objects → ⊥) c.any.ensures.ran (YieldsList-from_range 0 a.n a.n refl (omega arith)) (λ x q k. search (rules, tests)) (λ x q k. search (rules, tests)))
