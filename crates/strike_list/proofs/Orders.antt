-- RISING LISTS: none of their numbers stands twice, and they are settled by their elements.
use mathlib.Core.Path.{◌≡◌, refl, sym, ap, ap₂, ◌∙◌, subst}
use mathlib.Core.Logic.{⊎_elim, ◌≢◌}
use mathlib.Core.Bool.{true, false, false≢true}
use mathlib.Core.List.{List, [], ◌∷◌}
use Prim.Native.Nat.{ℕ, suc, ◌≤◌, ◌<◌}
use native.Mathlib.Omega.{arith}
use lib.Dec.{eqb, ltb}
use lib.ListN.{length, get_or}
use borrow.Author.Tests.{eqb-true, eqb-false, ltb-true}
use Rattle.std.proofs.lemmas.Bool.{cases_Bool, or_cases}
use Rattle.semantics.specs.Models.{elem, Distinct}
use Rattle.semantics.specs.Tables.{seat}
use Rattle.semantics.proofs.Tools.{same?, elem-here, each_tail, each-cons, seat-ok, distinct-length}
use Rattle.striking.specs.Striking.{Among, Rising, insert, rising}
use Rattle.striking.proofs.Choices.{rising-elem, rising-rising}

-- a number below all of a list is not in it
below_none : (x : ℕ) (xs : List ℕ) → ((y : ℕ) → elem y xs ≡ true → x < y) → elem x xs ≡ false
below_none x xs h = ⊎_elim (λ (q : elem x xs ≡ true). absurd (omega (arith, h x q))) (λ q. q) (cases_Bool (elem x xs))

pub rising-distinct : (xs : List ℕ) → Rising xs → Distinct xs
rising-distinct [] r = tt
rising-distinct (x ∷ xs) r = (below_none x xs r.0, rising-distinct xs r.1)

-- what is in a list with a first number, and is not that number, is behind it
behind : (x y : ℕ) (ys : List ℕ) → elem x (y ∷ ys) ≡ true → x ≢ y → elem x ys ≡ true
behind x y ys e n = ⊎_elim (λ (q : eqb x y ≡ true). absurd (n (eqb-true x y q))) (λ q. q) (or_cases (eqb x y) (elem x ys) e)

tails : (x : ℕ) (C D : List ℕ) → ((y : ℕ) → elem y C ≡ true → x < y) → Among (x ∷ C) (x ∷ D) → Among C D
tails x C D h a z e = behind z x D (each_tail (λ (w : ℕ). elem w (x ∷ D) ≡ true) x C a z e) (λ q. omega (arith, h z e, q))

pub rising-one : (C D : List ℕ) → Rising C → Rising D → Among C D → Among D C → C ≡ D
rising-one [] [] r s a b = refl
rising-one [] (y ∷ D) r s a b = absurd (false≢true (b y (elem-here y D)))
rising-one (x ∷ C) [] r s a b = absurd (false≢true (a x (elem-here x C)))
rising-one (x ∷ C) (y ∷ D) r s a b = ⊎_elim
    (λ (q : x ≡ y). ap₂ {C = List ℕ} (λ (z : ℕ) (l : List ℕ). z ∷ l) q (rising-one C D r.1 s.1
    (tails x C D r.0 (subst (λ (z : ℕ). Among (x ∷ C) (z ∷ D)) (sym q) a))
    (tails y D C s.0 (subst (λ (z : ℕ). Among (y ∷ D) (z ∷ C)) q b))))
    (λ (q : x ≢ y). absurd (omega (arith, s.0 x (behind x y D (a x (elem-here x C)) q), r.0 y (behind y x C (b y (elem-here y D)) (λ e. q (sym e))))))
    (same? x y)

-- A LIST IN RISING ORDER IS SHORTER exactly if it has a number twice
insert-same : (x : ℕ) (ys : List ℕ) → Rising ys → elem x ys ≡ true → length (insert x ys) ≡ length ys
insert-same x [] r e = absurd (false≢true e)
insert-same x (y ∷ ys) r e = ⊎_elim
    (λ (q : ltb x y ≡ true). let l = ltb-true x y q in absurd (⊎_elim (λ (t : eqb x y ≡ true). omega (arith, eqb-true x y t, l)) (λ (t : elem x ys ≡ true). omega (arith, r.0 x t, l)) (or_cases (eqb x y) (elem x ys) e)))
    (λ (q : ltb x y ≡ false). rw q (⊎_elim
    (λ (t : eqb x y ≡ true). rw t)
    (λ (t : eqb x y ≡ false). rw t (ap suc (insert-same x ys r.1 (behind x y ys e (eqb-false x y t))))) (cases_Bool (eqb x y))))
    (cases_Bool (ltb x y))

insert-most : (x : ℕ) (ys : List ℕ) → length (insert x ys) ≤ suc (length ys)
insert-most x [] = omega arith
insert-most x (y ∷ ys) = ⊎_elim (λ (q : ltb x y ≡ true). rw q (omega arith))
    (λ (q : ltb x y ≡ false). rw q (⊎_elim (λ (t : eqb x y ≡ true). rw t (omega arith)) (λ (t : eqb x y ≡ false). rw t (omega (arith, insert-most x ys))) (cases_Bool (eqb x y)))) (cases_Bool (ltb x y))

rising-most : (L : List ℕ) → length (rising L) ≤ length L
rising-most [] = omega arith
rising-most (x ∷ L) = omega (arith, insert-most x (rising L), rising-most L)

length-distinct : (L : List ℕ) → length L ≤ length (rising L) → Distinct L
length-distinct [] l = tt
length-distinct (x ∷ L) l = ⊎_elim
    (λ (q : elem x L ≡ true). absurd (omega (arith, l, insert-same x (rising L) (rising-rising L) (rising-elem x L ∙ q), rising-most L)))
    (λ (q : elem x L ≡ false). (q, length-distinct L (omega (arith, l, insert-most x (rising L)))))
    (cases_Bool (elem x L))

-- A RISING LIST AMONG ANOTHER THAT IS NO LONGER has all of it, and then the other has no number twice
module _ (C L : List ℕ) (r : Rising C) (a : Among C L) (l : length L ≤ length C) where
  pub all-distinct : Distinct L
  all-distinct = length-distinct L (omega (arith, distinct-length C (rising L) (rising-distinct C r) (λ x e. rising-elem x L ∙ a x e)))

  pub all_among : Among L C
  all_among x e = ⊎_elim (λ q. q)
      (λ (q : elem x C ≡ false). absurd (omega (arith, distinct-length (x ∷ C) L (q, rising-distinct C r) (each-cons (λ (z : ℕ). elem z L ≡ true) x C e a))))
      (cases_Bool (elem x C))

-- numbers that rise by their places rise
pub places-rise : (xs : List ℕ) → ((i j : ℕ) → i < j → j < length xs → get_or xs i 0 < get_or xs j 0) → Rising xs
places-rise [] h = tt
places-rise (x ∷ xs) h = (
  (λ y e. let s = seat-ok y xs e in subst (λ (z : ℕ). x < z) s.1 (h 0 (suc (seat y xs)) (omega arith) (omega (arith, s.0)))),
  places-rise xs (λ i j l k. h (suc i) (suc j) (omega arith) (omega arith)),
)
