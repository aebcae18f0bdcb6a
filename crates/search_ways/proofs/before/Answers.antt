use Prim.Native.Nat.{ℕ}
use native.Mathlib.Omega.{arith}
use borrow.Author.Rules.{rules}
use borrow.Author.Tests.{tests}
use mathlib.Core.Path.{refl}
use Rattle.std.specs.Prelude.{Option, Some, None, MatchOption, IsSome, ◌≤◌, ◌<◌}
use Rattle.std.proofs.lemmas.Iterator.{first_from_Range}
use Rattle.search_ways.specs.Shortest.{Joins}
use Rattle.search_ways.proofs.Nearest.{said, denied}
use Rattle.search_ways.proofs.before.Goals as goal
use Rattle.search_ways.proofs.before.Goals.{After-find}

-- what the search found
found : (c : After-find) → let a = c.args in
    MatchOption c.find.result ((u : ℕ) → 0 ≤ u → u < a.n → Joins a.links.now a.layers.now a.j a.t u → ⊥)
    (λ u. (0 ≤ u) × (u < a.n) × Joins a.links.now a.layers.now a.j a.t u × ((v : ℕ) → 0 ≤ v → v < u → Joins a.links.now a.layers.now a.j a.t v → ⊥))
found c =
    let a = c.args in
    first_from_Range _ _ _ c.find.result (λ u. Joins a.links.now a.layers.now a.j a.t u) (λ u. Joins a.links.now a.layers.now a.j a.t u → ⊥) c.find.ensures.ran (λ x q k. search (rules, tests, said)) (λ x q k. search (rules, tests, denied))

-- a slot is found, where one fits
there : (P : Type 0) (Q : ℕ → Type 0) (r : Option ℕ) → MatchOption r P Q → (P → ⊥) → IsSome r
there P Q None h never = absurd (never h)
there P Q (Some u) h never = refl

pub unwrap-requires : goal.unwrap-requires
unwrap-requires c = let j = c.requires.3 in there _ _ c.find.result (found (goal.at.unwrap-requires c).After-find) (λ h. h j.0 (omega arith) j.1 j.2)

pub returns : goal.returns
returns c = let f = rw c.unwrap.ensures at (found (goal.at.returns c).After-find) in (f.1, f.2)
