use Prim.Native.Nat.{ℕ}
use mathlib.Core.List.{List}
use mathlib.Core.Path.{◌≡◌, refl}
use mathlib.Core.Bool.{true}
use native.Mathlib.Omega.{arith}
use borrow.Author.Rules.{rules}
use borrow.Author.Tests.{tests}
use Rattle.std.specs.Prelude.{None, Some}
use Rattle.std.proofs.lemmas.Iterator.{first_from_Range}
use Rattle.facts_bits.specs.Bits.{in_row}
use Rattle.model.specs.declared.Model.{Model}
use Rattle.model.specs.Records.{clause_at}
use Rattle.search_ways.specs.Steps.{Turns}
use Rattle.search_ways.proofs.Nearest.{said, denied}
use Rattle.search_ways.proofs.line_between.Goals as goal

-- what the search asks of clause i
abbrev Asked : Model → List ℕ → ℕ → ℕ → ℕ → ℕ → Type 0
Asked m table u from to i = (in_row table i u ≡ true) × Turns (clause_at m i).action from to

pub returns-in_err-i : goal.returns-in_err-i
returns-in_err-i c =
    let a = c.args in
    let h = first_from_Range _ _ _ None (Asked a.m a.table.now a.u a.from a.to) (λ i. Asked a.m a.table.now a.u a.from a.to i → ⊥) c.in_err-i.ensures.ran (λ x q k. search (rules, tests, said)) (λ x q k. search (rules, tests, denied)) in
    rw c.from_residual.ensures (λ i l. h i (omega arith) l.0 (l.1, l.2))

pub returns : goal.returns
returns c =
    let a = c.args in
    let h = first_from_Range _ _ _ (Some c.in_ok-i.i) (Asked a.m a.table.now a.u a.from a.to) (λ i. Asked a.m a.table.now a.u a.from a.to i → ⊥) c.in_ok-i.ensures.ran (λ x q k. search (rules, tests, said)) (λ x q k. search (rules, tests, denied)) in
    (c.in_ok-i.i, (h.1, h.2.0, h.2.1), (λ k b l. h.3 k (omega arith) b (l.1, l.2)), refl)
