-- The first place of a number in a row.
use mathlib.Core.Path.{◌≡◌, refl, sym, ap, ◌∙◌, subst}
use mathlib.Core.Logic.{⊎_elim}
use mathlib.Core.Bool.{true, false, cond, false≢true}
use mathlib.Core.List.{List, [], ◌∷◌}
use Prim.Native.Nat.{ℕ, zero, suc, ◌≤◌, ◌<◌}
use native.Mathlib.Omega.{arith}
use native.Mathlib.Nat.{not-suc-le-zero}
use borrow.Author.Tests.{lt-ltb, le-ltb}
use lib.Dec.{eqb, ltb}
use lib.ListN.{length, get_or}
use native.Mathlib.Numerals.{one-add}
use Rattle.std.proofs.lemmas.Bool.{cases_Bool}
use Rattle.std.specs.List.{list_any, position}
use Rattle.std.specs.Prelude.{Option, Some, None}
use Rattle.std.specs.Option.{unwrap_or, IsSome}
use Rattle.std.proofs.lemmas.Bool.Decides.{nat_tests}
use Rattle.std.proofs.lemmas.List.Recursion.{is_position_or_len}
use Rattle.semantics.specs.Models.{elem}
use Rattle.semantics.specs.Tables.{seat}
use Rattle.search_states.specs.States.{Sought}
use Rattle.semantics.proofs.Tools.{or-false, or_right, elem-here, seat-ok}

-- a number that is not in the row has no place
pub seat-absent : (x : ℕ) (xs : List ℕ) → elem x xs ≡ false → seat x xs ≡ length xs
seat-absent x [] e = refl
seat-absent x (y ∷ ys) e = let p = or-false (eqb x y) (elem x ys) e in rw p.0 (ap suc (seat-absent x ys p.1))

-- a number is in the row if it has a place there
pub seat-below : (x : ℕ) (xs : List ℕ) → ltb (seat x xs) (length xs) ≡ elem x xs
seat-below x xs =
    ⊎_elim
    (λ (e : elem x xs ≡ true). rw (e, lt-ltb _ _ (seat-ok x xs e).0))
    (λ (e : elem x xs ≡ false). rw e (le-ltb (seat x xs) (length xs) (let q = seat-absent x xs e in omega arith)))
    (cases_Bool (elem x xs))

-- the same of a row of n numbers
pub seat-in : (x : ℕ) (xs : List ℕ) (n : ℕ) → length xs ≡ n → seat x xs < n → elem x xs ≡ true
seat-in x xs n e l = sym (seat-below x xs) ∙ lt-ltb (seat x xs) (length xs) (omega arith)

pub seat-out : (x : ℕ) (xs : List ℕ) (n : ℕ) → length xs ≡ n → n ≤ seat x xs → elem x xs ≡ false
seat-out x xs n e l = sym (seat-below x xs) ∙ le-ltb (seat x xs) (length xs) (omega arith)

-- a slice's `contains` answers whether the number is in it
pub list_any-elem : (x : ℕ) (xs : List ℕ) → list_any (λ y. eqb y x) xs ≡ elem x xs
list_any-elem x [] = refl
list_any-elem x (y ∷ ys) = let e : eqb y x ≡ eqb x y = grind (arith, nat_tests) in rw (e, list_any-elem x ys)

-- its `position` is the first place
pub position-seat : (x : ℕ) (xs : List ℕ) → position (eqb x) xs ≡ cond (elem x xs) (Some (seat x xs)) None
position-seat x xs = rw (← is_position_or_len (seat x) (eqb x) refl (λ y ys. ap (cond (eqb x y) 0) (sym (one-add (seat x ys)))) xs, seat-below x xs)

pub sought-seat : (x : ℕ) (xs : List ℕ) (r : Option ℕ) → r ≡ position (eqb x) xs → Sought xs x r
sought-seat x xs r h = rw (h, position-seat x xs) (⊎_elim (λ (e : elem x xs ≡ true). rw e (refl, refl)) (λ (e : elem x xs ≡ false). rw e refl) (cases_Bool (elem x xs)))

-- it is found where it is there
pub sought-known : (x : ℕ) (xs : List ℕ) (r : Option ℕ) → Sought xs x r → elem x xs ≡ true → IsSome r
sought-known x xs None s e = absurd (false≢true (sym s ∙ e))
sought-known x xs (Some i) s e = refl

-- with the number of places where it has none
pub sought-or_length : (x : ℕ) (xs : List ℕ) (n : ℕ) (r : Option ℕ) → length xs ≡ n → Sought xs x r → unwrap_or r n ≡ seat x xs
sought-or_length x xs n None long s = sym (seat-absent x xs s ∙ long)
sought-or_length x xs n (Some i) long s = s.1

-- where it is, and that it is nowhere
pub position-there : (x : ℕ) (xs : List ℕ) (t : ℕ) → position (eqb x) xs ≡ Some t → (t < length xs) × (get_or xs t 0 ≡ x)
position-there x xs t h = ⊎_elim
    (λ (e : elem x xs ≡ true). let q : seat x xs ≡ t = some-same (seat x xs) t (rw e at (sym (position-seat x xs) ∙ h)) in subst (λ (u : ℕ). (u < length xs) × (get_or xs u 0 ≡ x)) q (seat-ok x xs e))
    (λ (e : elem x xs ≡ false). absurd (none-some t (rw e at (sym (position-seat x xs) ∙ h))))
    (cases_Bool (elem x xs))
  where
    some-same : (a b : ℕ) → ◌≡◌ {A = Option ℕ} (Some a) (Some b) → a ≡ b
    some-same a b e = cc

    none-some : (b : ℕ) → ◌≡◌ {A = Option ℕ} None (Some b) → ⊥
    none-some b e = cc

pub position-nowhere : (x : ℕ) (xs : List ℕ) → position (eqb x) xs ≡ None → elem x xs ≡ false
position-nowhere x xs h = ⊎_elim
    (λ (e : elem x xs ≡ true). absurd (some-none (seat x xs) (rw e at (sym (position-seat x xs) ∙ h))))
    (λ (e : elem x xs ≡ false). e)
    (cases_Bool (elem x xs))
  where
    some-none : (b : ℕ) → ◌≡◌ {A = Option ℕ} (Some b) None → ⊥
    some-none b e = cc

-- each place has an element of the row
pub elem-get_or : (xs : List ℕ) (j : ℕ) → j < length xs → elem (get_or xs j 0) xs ≡ true
elem-get_or [] j h = absurd (not-suc-le-zero h)
elem-get_or (x ∷ xs) zero h = elem-here x xs
elem-get_or (x ∷ xs) (suc j) h = or_right (eqb (get_or xs j 0) x) (elem (get_or xs j 0) xs) (elem-get_or xs j (omega arith))
