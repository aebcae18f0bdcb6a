-- The lower of two row numbers: 0 is neutral, and the order does not matter.
use mathlib.Core.Path.{◌≡◌, sym, ◌∙◌}
use mathlib.Core.Logic.{⊎_elim, ◌⊎◌, inl, inr}
use mathlib.Core.Bool.{true, false}
use Prim.Native.Nat.{ℕ, min, ◌≤◌}
use native.Mathlib.Omega.{arith}
use lib.Dec.{eqb}
use borrow.Author.Tests.{eqb-true, eqb-false, eq-eqb, ne_eqb}
use Rattle.std.proofs.lemmas.Bool.{cases_Bool}
use Rattle.grammar.specs.Rows.{lower}

module _ (a b : ℕ) where
  pub lower-first : a ≡ 0 → lower a b ≡ b
  unfolding lower
  lower-first z = rw (eq-eqb a 0 z)

  pub lower-second : b ≡ 0 → lower a b ≡ a
  unfolding lower
  lower-second z = ⊎_elim (λ (p : eqb a 0 ≡ true). rw p (omega (arith, eqb-true a 0 p))) (λ (p : eqb a 0 ≡ false). rw (p, eq-eqb b 0 z)) (cases_Bool (eqb a 0))

  pub lower-both : (a ≡ 0 → ⊥) → (b ≡ 0 → ⊥) → lower a b ≡ min a b
  unfolding lower
  lower-both p q = rw (ne_eqb a 0 p, ne_eqb b 0 q)

zero? : (a : ℕ) → (a ≡ 0) ⊎ (a ≡ 0 → ⊥)
zero? a = ⊎_elim (λ p. inl (eqb-true a 0 p)) (λ p. inr (eqb-false a 0 p)) (cases_Bool (eqb a 0))

-- where there is no number, both have none
pub lower-none : (a b : ℕ) → lower a b ≡ 0 → (a ≡ 0) × (b ≡ 0)
lower-none a b e = ⊎_elim (λ p. (p, sym (lower-first a b p) ∙ e))
    (λ p. ⊎_elim (λ q. absurd (p (sym (lower-second a b q) ∙ e))) (λ q. absurd (let m = lower-both a b p q in omega arith)) (zero? b)) (zero? a)

pub lower-comm : (a b : ℕ) → lower a b ≡ lower b a
lower-comm a b = ⊎_elim (λ p. lower-first a b p ∙ sym (lower-second b a p))
    (λ p. ⊎_elim (λ q. lower-second a b q ∙ sym (lower-first b a q)) (λ q. let m = lower-both a b p q in let n = lower-both b a q p in omega arith) (zero? b)) (zero? a)

mins : (a b c : ℕ) → min (min a b) c ≡ min a (min b c)
mins a b c = omega arith

pub lower-assoc : (a b c : ℕ) → lower (lower a b) c ≡ lower a (lower b c)
lower-assoc a b c = ⊎_elim (λ p. rw (lower-first a b p, lower-first a (lower b c) p))
    (λ p. ⊎_elim (λ q. rw (lower-second a b q, lower-first b c q))
    (λ q. ⊎_elim (λ r. rw (lower-second (lower a b) c r, lower-second b c r))
    (λ r. let m = lower-both a b p q in let n = lower-both b c q r in
    let u = lower-both (lower a b) c (λ z. p (lower-none a b z).0) r in let v = lower-both a (lower b c) p (λ z. q (lower-none b c z).0) in
    u ∙ rw (m, v, n) (mins a b c))
    (zero? c)) (zero? b)) (zero? a)

-- a number that is no higher stands for both
pub lower-under : (a b : ℕ) → (a ≡ 0 → ⊥) → (b ≡ 0) ⊎ (a ≤ b) → lower a b ≡ a
lower-under a b p h = ⊎_elim (λ q. lower-second a b q) (λ q. ⊎_elim (λ r. lower-second a b r) (λ r. let m = lower-both a b p r in omega arith) (zero? b)) h

pub lower-bound : (a b n : ℕ) → a ≤ n → b ≤ n → lower a b ≤ n
lower-bound a b n h k = ⊎_elim (λ p. rw (lower-first a b p) k) (λ p. ⊎_elim (λ q. rw (lower-second a b q) h) (λ q. let m = lower-both a b p q in omega arith) (zero? b)) (zero? a)
