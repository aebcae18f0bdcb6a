-- The objects that a meeting names, and the choice that has them.
use mathlib.Core.Path.{◌≡◌, refl, sym, subst}
use mathlib.Core.Bool.{Bool, true, false}
use Rattle.std.specs.Prelude.{Option, None}
use Rattle.std.specs.Bool.{MatchBool}
use Rattle.std.specs.List.{zip, AllWithin, HoldsAt}
use Rattle.std.proofs.lemmas.Slice.Zip.{length-zip, get_or-zip}
use Rattle.replay_session.specs.Sessions.{Says}
use mathlib.Core.Logic.{◌⊎◌, inl, inr, ◌≢◌}
use mathlib.Core.List.{List, [], ◌∷◌}
use Prim.Native.Nat.{ℕ, zero, suc, ◌+◌, ◌<◌}
use native.Mathlib.Omega.{arith}
use borrow.Author.Tests.{eq-eqb, ne_eqb}
use lib.ListN.{length, get_or}
use Rattle.limits.specs.Limits as limit
use Rattle.semantics.specs.Runs.{pick}
use Rattle.semantics.proofs.Tools.{same?}
use Rattle.model.specs.Records.{up_from}
use Rattle.model.specs.Places.{objects}
use Rattle.facts_candidates.specs.Choices.{chosen}
use Rattle.replay_meetings.specs.Carried.{choice_of}

-- the object picked for a variable that is numbered by its place
pub pick-place : (k n : ℕ) (os : List ℕ) (x y : ℕ) → y ≡ k + x → x < n → length os ≡ n → pick (up_from k n) os 0 y ≡ get_or os x 0
pick-place k zero os x y e l h = absurd (omega arith)
pick-place k (suc n) [] x y e l h = absurd (omega arith)
pick-place k (suc n) (o ∷ os) zero y e l h = rw (eq-eqb y k (omega arith))
pick-place k (suc n) (o ∷ os) (suc x) y e l h = rw (ne_eqb y k (λ q. omega arith)) (pick-place (suc k) n os x y (omega arith) (omega arith) (omega arith))

-- what holds of each cell of the carried variables
pub each-cell : (P : ℕ → Type 0) → P 0 → P 1 → (v : ℕ) → v < limit.carried → P v
each-cell P a b zero l = a
each-cell P a b (suc zero) l = b
each-cell P a b (suc (suc v)) l = absurd (omega arith)

-- the named objects are those of the choice, and none is 255
pub objects-chosen : (a b c x : ℕ) → x < length (objects (a ∷ b ∷ c ∷ [])) → (get_or (objects (a ∷ b ∷ c ∷ [])) x 0 ≡ chosen (choice_of a b c) x) × (chosen (choice_of a b c) x ≢ 255)
objects-chosen a b c x = go (same? a 255) (same? b 255) (same? c 255) x
  where
    Right : List ℕ → ℕ → Type 0
    Right os y = y < length os → (get_or os y 0 ≡ chosen (choice_of a b c) y) × (chosen (choice_of a b c) y ≢ 255)

    go : (a ≡ 255) ⊎ (a ≢ 255) → (b ≡ 255) ⊎ (b ≢ 255) → (c ≡ 255) ⊎ (c ≢ 255) → (y : ℕ) → Right (objects (a ∷ b ∷ c ∷ [])) y
    go (inl p) q r y = rw (eq-eqb a 255 p) (λ l. absurd (omega arith))
    go (inr p) (inl q) r zero = rw (ne_eqb a 255 p, eq-eqb b 255 q) (λ l. (refl, p))
    go (inr p) (inl q) r (suc y) = rw (ne_eqb a 255 p, eq-eqb b 255 q) (λ l. absurd (omega arith))
    go (inr p) (inr q) (inl r) zero = rw (ne_eqb a 255 p, ne_eqb b 255 q, eq-eqb c 255 r) (λ l. (refl, p))
    go (inr p) (inr q) (inl r) (suc zero) = rw (ne_eqb a 255 p, ne_eqb b 255 q, eq-eqb c 255 r) (λ l. (refl, q))
    go (inr p) (inr q) (inl r) (suc (suc y)) = rw (ne_eqb a 255 p, ne_eqb b 255 q, eq-eqb c 255 r) (λ l. absurd (omega arith))
    go (inr p) (inr q) (inr r) zero = rw (ne_eqb a 255 p, ne_eqb b 255 q, ne_eqb c 255 r) (λ l. (refl, p))
    go (inr p) (inr q) (inr r) (suc zero) = rw (ne_eqb a 255 p, ne_eqb b 255 q, ne_eqb c 255 r) (λ l. (refl, q))
    go (inr p) (inr q) (inr r) (suc (suc zero)) = rw (ne_eqb a 255 p, ne_eqb b 255 q, ne_eqb c 255 r) (λ l. (refl, r))
    go (inr p) (inr q) (inr r) (suc (suc (suc y))) = rw (ne_eqb a 255 p, ne_eqb b 255 q, ne_eqb c 255 r) (λ l. absurd (omega arith))

-- a fact of the elements side by side is one of each place
pub each-zipped : (P : Option ℕ → Option ℕ → Type 0) (xs ys : List (Option ℕ)) (r : Bool) → length xs ≡ limit.carried → length ys ≡ limit.carried
    → MatchBool r (AllWithin (λ p. P p.0 p.1) (zip xs ys) 0 (length (zip xs ys))) ((k : ℕ) × (k < length (zip xs ys)) × HoldsAt (λ p. P p.0 p.1 → ⊥) (zip xs ys) k)
    → Says ((v : ℕ) → v < limit.carried → P (get_or xs v None) (get_or ys v None)) r
each-zipped P xs ys r long as-long = go r
  where
    size : length (zip xs ys) ≡ limit.carried
    size = rw (length-zip, long, as-long)

    here : (v : ℕ) → v < limit.carried → get_or (zip xs ys) v (None, None) ≡ (get_or xs v None, get_or ys v None)
    here v l = get_or-zip xs ys v (None, None) (omega (arith, long)) (omega (arith, as-long))

    go : (b : Bool) → MatchBool b (AllWithin (λ p. P p.0 p.1) (zip xs ys) 0 (length (zip xs ys))) ((k : ℕ) × (k < length (zip xs ys)) × HoldsAt (λ p. P p.0 p.1 → ⊥) (zip xs ys) k) → Says ((v : ℕ) → v < limit.carried → P (get_or xs v None) (get_or ys v None)) b
    go true h = λ v l. subst (λ (p : Option ℕ × Option ℕ). P p.0 p.1) (here v l) (h v (None, None) (omega arith) (omega (arith, size)))
    go false (k, l, n) = λ all. let m : k < limit.carried = omega (arith, l, size) in n (None, None) (subst (λ (p : Option ℕ × Option ℕ). P p.0 p.1) (sym (here k m)) (all k m))
