-- The slots of a row, and whether a side can get a number there.
use mathlib.Core.Path.{◌≡◌, refl, sym, ap, ◌∙◌, subst}
use mathlib.Core.Logic.{⊎_elim, ◌≢◌}
use mathlib.Core.Bool.{Bool, true, false, false≢true, or-false, and-true}
use mathlib.Core.List.{List, [], ◌∷◌}
use Prim.Native.Nat.{ℕ, zero, suc, ◌+◌, ◌≤◌, ◌<◌}
use native.Mathlib.Omega.{arith}
use native.Mathlib.Nat.{not-suc-le-zero}
use borrow.Author.Tests.{eqb-true, eq-eqb}
use lib.Dec.{eqb}
use lib.ListN.{length}
use Rattle.std.proofs.lemmas.Bool.{cases_Bool, or_cases}
use Rattle.std.specs.Bool.{MatchBool}
use Rattle.limits.specs.Limits as limit
use Rattle.semantics.specs.Models.{elem}
use Rattle.semantics.proofs.Tools.{same?, clash, or_right}
use Rattle.facts_bits.specs.Bits.{in_row, Copied, Vacant}
use Rattle.games.specs.Game.{Side, attacker, guardian, or_stay}
use Rattle.games.specs.Rounds.{any, every}
use Rattle.games.proofs.Lists.{any-make, any-use, every-make, every-use}
use Rattle.game_rounds.specs.Board.{slots, Number, up_to, Inside, sooner, ready_by}

-- THE SLOTS OF A ROW below k are those whose bits are set
pub slots-here : (w : List ℕ) (e k t : ℕ) → t < k → in_row w e t ≡ true → elem t (slots w e k) ≡ true
slots-here w e zero t l q = absurd (not-suc-le-zero l)
slots-here w e (suc k) t l q = ⊎_elim
    (λ (z : t ≡ k). rw (subst (λ (x : ℕ). in_row w e x ≡ true) z q, eq-eqb t k z) refl)
    (λ (z : t ≢ k). ⊎_elim
    (λ (b : in_row w e k ≡ true). rw b (or_right (eqb t k) (elem t (slots w e k)) (slots-here w e k t (omega (arith, l, z)) q)))
    (λ (b : in_row w e k ≡ false). rw b (slots-here w e k t (omega (arith, l, z)) q))
    (cases_Bool (in_row w e k)))
    (same? t k)

pub slots_set : (w : List ℕ) (e k t : ℕ) → elem t (slots w e k) ≡ true → (t < k) × (in_row w e t ≡ true)
slots_set w e zero t i = absurd (false≢true i)
slots_set w e (suc k) t i = ⊎_elim
    (λ (b : in_row w e k ≡ true). ⊎_elim
    (λ q. let z = eqb-true t k q in (omega (arith, z), subst (λ (x : ℕ). in_row w e x ≡ true) (sym z) b))
    (λ q. let r = slots_set w e k t q in (omega (arith, r.0), r.1))
    (or_cases (eqb t k) (elem t (slots w e k)) (rw b at i)))
    (λ (b : in_row w e k ≡ false). let r = slots_set w e k t (rw b at i) in (omega (arith, r.0), r.1))
    (cases_Bool (in_row w e k))

pub slots-none : (w : List ℕ) (e k : ℕ) → ((t : ℕ) → t < k → in_row w e t ≡ false) → slots w e k ≡ []
slots-none w e zero h = refl
slots-none w e (suc k) h = rw (h k (omega arith)) (slots-none w e k (λ t l. h t (omega (arith, l))))

-- THE SLOTS BELOW k
pub up-here : (k t : ℕ) → t < k → elem t (up_to k) ≡ true
up-here zero t l = absurd (not-suc-le-zero l)
up-here (suc k) t l = ⊎_elim (λ (z : t ≡ k). rw (eq-eqb t k z) refl) (λ (z : t ≢ k). or_right (eqb t k) (elem t (up_to k)) (up-here k t (omega (arith, l, z)))) (same? t k)

pub up-below : (k t : ℕ) → elem t (up_to k) ≡ true → t < k
up-below zero t i = absurd (false≢true i)
up-below (suc k) t i = ⊎_elim (λ q. omega (arith, eqb-true t k q)) (λ q. omega (arith, up-below k t q)) (or_cases (eqb t k) (elem t (up_to k)) i)

pub length_up : (k : ℕ) → length (up_to k) ≡ k
length_up zero = refl
length_up (suc k) = ap suc (length_up k)

-- SOME AND EACH of the slots of a row
module _ (f : ℕ → Bool) (w : List ℕ) (e n : ℕ) where
  pub any-slots : (r : Bool)
      → MatchBool r ((t : ℕ) × (0 ≤ t) × (t < n + 1) × (in_row w e t ≡ true × f t ≡ true)) ((t : ℕ) → 0 ≤ t → t < n + 1 → in_row w e t ≡ true → f t ≡ false)
      → r ≡ any f (slots w e (suc n))
  any-slots true h = sym (any-make f h.0 (slots w e (suc n)) (slots-here w e (suc n) h.0 (omega (arith, h.2)) h.3.0) h.3.1)
  any-slots false h = ⊎_elim
      (λ (q : any f (slots w e (suc n)) ≡ true). let r = any-use f (slots w e (suc n)) q in let s = slots_set w e (suc n) r.0 r.1 in clash r.2 (h r.0 (omega arith) (omega (arith, s.0)) s.1))
      (λ (q : any f (slots w e (suc n)) ≡ false). sym q)
      (cases_Bool (any f (slots w e (suc n))))

  pub every-slots : (r : Bool)
      → MatchBool r ((t : ℕ) → 0 ≤ t → t < n + 1 → in_row w e t ≡ true → f t ≡ true) ((t : ℕ) × (0 ≤ t) × (t < n + 1) × (in_row w e t ≡ true × f t ≡ false))
      → r ≡ every f (slots w e (suc n))
  every-slots true h = sym (every-make f (slots w e (suc n)) (λ t i. let s = slots_set w e (suc n) t i in h t (omega arith) (omega (arith, s.0)) s.1))
  every-slots false h = ⊎_elim
      (λ (z : every f (slots w e (suc n)) ≡ true). clash (every-use f h.0 (slots w e (suc n)) z (slots-here w e (suc n) h.0 (omega (arith, h.2)) h.3.0)) h.3.1)
      (λ (z : every f (slots w e (suc n)) ≡ false). sym z)
      (cases_Bool (every f (slots w e (suc n))))

-- READY, by whether the side has a move
stay-same : (e t : ℕ) (xs : List ℕ) → elem t xs ≡ true → or_stay e xs ≡ xs
stay-same e t [] i = absurd (false≢true i)
stay-same e t (x ∷ xs) i = refl

module _ (w : List ℕ) (e n : ℕ) (few : n ≤ limit.atomic) (ranks : List Number) (round : ℕ) (row : List ℕ) (copied : Copied w e row) (r : Bool) (vacant : Vacant row r) where
  -- without a move the side stays
  pub ready-stuck : r ≡ true → (a : Side) → sooner ranks round e ≡ ready_by a w e n ranks round
  ready-stuck q a = go a
    where
      none : slots w e (suc n) ≡ []
      none = slots-none w e (suc n) (λ t l. sym (copied.bits t (omega (arith, l, few))) ∙ vacant.none q t (omega (arith, l, few)))

      go : (a : Side) → sooner ranks round e ≡ ready_by a w e n ranks round
      go attacker = rw none (sym (or-false (sooner ranks round e)))
      go guardian = rw none (sym (and-true (sooner ranks round e)))

  -- with one it must move
  module _ (inside : Inside w n) (q : r ≡ false) where
    some : or_stay e (slots w e (suc n)) ≡ slots w e (suc n)
    some =
        let s = vacant.some q in
        let b = sym (copied.bits s.0 (omega (arith, s.1))) ∙ s.2 in
        stay-same e s.0 (slots w e (suc n)) (slots-here w e (suc n) s.0 (omega (arith, (inside e s.0 s.1 b).1)) b)

    pub ready-some : (b : Bool) → b ≡ any (sooner ranks round) (slots w e (suc n)) → b ≡ ready_by attacker w e n ranks round
    ready-some b h = rw some h

    pub ready-all : (b : Bool) → b ≡ every (sooner ranks round) (slots w e (suc n)) → b ≡ ready_by guardian w e n ranks round
    ready-all b h = rw some h
