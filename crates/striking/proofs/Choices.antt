-- CHOICES OF LINES TO STRIKE: all of them, the one that cures (R-8), and how many are reached (R-10).
use mathlib.Core.Path.{◌≡◌, refl, sym, ap, ap₂, ◌∙◌, subst}
use mathlib.Core.Logic.{◌⊎◌, inl, inr, ⊎_elim, ◌≢◌, ◌↔◌}
use mathlib.Core.Bool.{Bool, true, false, not, ◌&&◌, ◌||◌, and-eq-true_iff, false≢true, and-false}
use mathlib.Core.List.Memᴰ
use mathlib.Core.List.{List, [], ◌∷◌, ◌++◌, map, Memᴰ}
use mathlib.Core.Option.{Option, none, some}
use Prim.Native.Nat.{ℕ, suc, ◌+◌, ◌*◌, ◌^◌, ◌/◌, ◌%◌, ◌<◌}
use native.Mathlib.Nat.{two-pow-succ, mul-add-div_right, mul-add-mod_self_right, div-eq_of_lt, mod-eq_of_lt, suc-ne-zero, suc_inj}
use native.Mathlib.Omega.{arith}
use lib.Pow.{pow_pos}
use lib.Dec.{eqb, ltb}
use lib.ListN.{length, length-append, length-map}
use borrow.Author.Tests.{eqb-true, eqb-false, ltb-true, ltb-false, not-true}
use Rattle.std.proofs.lemmas.Bool.{cases_Bool, or_cases}
use Rattle.semantics.specs.Models.{elem, Program, Question, Distinct}
use Rattle.semantics.specs.Questions.{Reached}
use Rattle.striking.specs.Striking.{strike, Among, Rising, Choice, Before, Cure, NoCure, Cured, insert, rising, parts, choices, Counts, nothing, reached, unreached, Tally, unkept}
use Rattle.semantics.proofs.Tools.{same?, clash, or_right, or-false, elem-here, each_tail, each-cons}
use Rattle.striking.proofs.Striking.{strike-none, strike-same, still-reached}

-- RISING ORDER
or-twice : (a b : Bool) → (a || b) ≡ (a || (a || b))
or-twice true b = refl
or-twice false b = refl

or_swap : (a b c : Bool) → (a || (b || c)) ≡ (b || (a || c))
or_swap true true c = refl
or_swap true false c = refl
or_swap false b c = refl

insert-elem : (z x : ℕ) (ys : List ℕ) → elem z (insert x ys) ≡ (eqb z x || elem z ys)
insert-elem z x [] = refl
insert-elem z x (y ∷ ys) = ⊎_elim (λ (q : ltb x y ≡ true). rw q) (λ (q : ltb x y ≡ false). rw q (⊎_elim
    (λ (t : eqb x y ≡ true). rw (t, eqb-true x y t) (or-twice (eqb z y) (elem z ys)))
    (λ (t : eqb x y ≡ false). rw (t, insert-elem z x ys) (or_swap (eqb z y) (eqb z x) (elem z ys))) (cases_Bool (eqb x y)))) (cases_Bool (ltb x y))

-- the numbers are the listed ones,
pub rising-elem : (z : ℕ) (L : List ℕ) → elem z (rising L) ≡ elem z L
rising-elem z [] = refl
rising-elem z (x ∷ L) = insert-elem z x (rising L) ∙ rw (rising-elem z L)

insert-rising : (x : ℕ) (ys : List ℕ) → Rising ys → Rising (insert x ys)
insert-rising x [] h = ((λ y e. absurd (false≢true e)), tt)
insert-rising x (y ∷ ys) h = ⊎_elim
    (λ (q : ltb x y ≡ true). let l = ltb-true x y q in rw q (each-cons (λ (z : ℕ). x < z) y ys l (λ z e. omega (arith, l, h.0 z e)), h))
    (λ (q : ltb x y ≡ false). rw q (⊎_elim
    (λ (t : eqb x y ≡ true). rw t h)
    (λ (t : eqb x y ≡ false). let l : y < x = omega (arith, ltb-false x y q, eqb-false x y t) in
    rw t ((λ z e. ⊎_elim (λ (u : eqb z x ≡ true). subst (λ (k : ℕ). y < k) (sym (eqb-true z x u)) l) (λ u. h.0 z u) (or_cases (eqb z x) (elem z ys) (sym (insert-elem z x ys) ∙ e))), insert-rising x ys h.1)) (cases_Bool (eqb x y))))
    (cases_Bool (ltb x y))

-- in rising order,
pub rising-rising : (L : List ℕ) → Rising (rising L)
rising-rising [] = tt
rising-rising (x ∷ L) = insert-rising x (rising L) (rising-rising L)

insert-length : (x : ℕ) (ys : List ℕ) → elem x ys ≡ false → length (insert x ys) ≡ suc (length ys)
insert-length x [] e = refl
insert-length x (y ∷ ys) e = let k = or-false (eqb x y) (elem x ys) e in ⊎_elim (λ (q : ltb x y ≡ true). rw q) (λ (q : ltb x y ≡ false). rw (q, k.0) (ap suc (insert-length x ys k.1))) (cases_Bool (ltb x y))

-- and as many, where none is listed twice
pub rising-length : (L : List ℕ) → Distinct L → length (rising L) ≡ length L
rising-length [] d = refl
rising-length (x ∷ L) d = insert-length x (rising L) (rising-elem x L ∙ d.0) ∙ ap suc (rising-length L d.1)

-- ALL CHOICES
parts-length : (xs : List ℕ) → length (parts xs) ≡ 2 ^ length xs
parts-length [] = refl
parts-length (x ∷ xs) = length-append (map (λ (C : List ℕ). x ∷ C) (parts xs)) (parts xs) ∙ rw (length-map, parts-length xs) (sym (two-pow-succ (length xs)))

among-tail : (c x : ℕ) (cs xs : List ℕ) → ((y : ℕ) → elem y cs ≡ true → x < y) → Among cs (x ∷ xs) → Among cs xs
among-tail c x cs xs l h y e = ⊎_elim (λ (q : eqb y x ≡ true). absurd (omega (arith, l y e, eqb-true y x q))) (λ q. q) (or_cases (eqb y x) (elem y xs) (h y e))

choice-part : (xs C : List ℕ) → Rising xs → Choice xs C → Memᴰ C (parts xs)
choice-part [] [] r c = Memᴰ.head refl
choice-part [] (y ∷ C) r c = absurd (false≢true (c.1 y (elem-here y C)))
choice-part (x ∷ xs) [] r c = Memᴰ.append_right (map (λ (C : List ℕ). x ∷ C) (parts xs)) (choice-part xs [] r.1 (tt, (λ y e. absurd (false≢true e))))
choice-part (x ∷ xs) (y ∷ C) r c = ⊎_elim
    (λ (q : y ≡ x). Memᴰ.append_left (parts xs) (subst (λ (z : ℕ). Memᴰ (z ∷ C) (map (λ (C : List ℕ). x ∷ C) (parts xs))) (sym q)
    (Memᴰ.map (λ (C : List ℕ). x ∷ C) (choice-part xs C r.1 (c.0.1, among-tail y x C xs (λ z e. omega (arith, q, c.0.0 z e)) (each_tail (λ (z : ℕ). elem z (x ∷ xs) ≡ true) y C c.1))))))
    (λ (q : y ≢ x). let m : elem y xs ≡ true = ⊎_elim (λ (t : eqb y x ≡ true). absurd (q (eqb-true y x t))) (λ t. t) (or_cases (eqb y x) (elem y xs) (c.1 y (elem-here y C))) in
    let l : x < y = r.0 y m in
    Memᴰ.append_right (map (λ (C : List ℕ). x ∷ C) (parts xs)) (choice-part xs (y ∷ C) r.1 (c.0, among-tail y x (y ∷ C) xs (each-cons (λ (z : ℕ). x < z) y C l (λ z e. omega (arith, l, c.0.0 z e))) c.1)))
    (same? y x)

part-choice : (xs C : List ℕ) → Rising xs → Memᴰ C (parts xs) → Choice xs C
part-choice [] C r m = subst (λ (D : List ℕ). Choice [] D) (sym (⊎_elim (λ e. e) (λ q. absurd (Memᴰ.not-nil q)) (Memᴰ.cases_cons m))) (tt, (λ y e. e))
part-choice (x ∷ xs) C r m = ⊎_elim
    (λ q. let k = Memᴰ.of_map (λ (C : List ℕ). x ∷ C) (parts xs) q in let c = part-choice xs k.0 r.1 k.1 in
    subst (λ (D : List ℕ). Choice (x ∷ xs) D) k.2 (((λ y e. r.0 y (c.1 y e)), c.0), each-cons (λ (z : ℕ). elem z (x ∷ xs) ≡ true) x k.0 (elem-here x xs) (λ z e. or_right (eqb z x) (elem z xs) (c.1 z e))))
    (λ q. let c = part-choice xs C r.1 q in (c.0, λ z e. or_right (eqb z x) (elem z xs) (c.1 z e)))
    (Memᴰ.append_cases (map (λ (C : List ℕ). x ∷ C) (parts xs)) m)

-- the list has exactly the choices,
pub choices-all : (L C : List ℕ) → Memᴰ C (choices L) ↔ Choice L C
choices-all L C = (
  (λ m. let c = part-choice (rising L) C (rising-rising L) m in (c.0, λ x e. sym (rising-elem x L) ∙ c.1 x e)),
  (λ c. choice-part (rising L) C (rising-rising L) (c.0, λ x e. rising-elem x L ∙ c.1 x e)),
)

-- no list stands twice
abbrev pub Apart : List (List ℕ) → Type 0
Apart [] = Unit {0}
Apart (C ∷ l) = (Memᴰ C l → ⊥) × Apart l

apart-append : (x : ℕ) (l k : List (List ℕ)) → Apart l → Apart k → ((C : List ℕ) → Memᴰ (x ∷ C) k → ⊥) → Apart (map (λ (C : List ℕ). x ∷ C) l ++ k)
apart-append x [] k a b n = b
apart-append x (C ∷ l) k a b n = (
  (λ m. ⊎_elim (λ q. let w = Memᴰ.of_map (λ (C : List ℕ). x ∷ C) l q in let e = w.2 in let u : w.0 ≡ C = cc e in a.0 (subst (λ (D : List ℕ). Memᴰ D l) u w.1))
      (λ q. n C q) (Memᴰ.append_cases (map (λ (C : List ℕ). x ∷ C) l) m)),
  apart-append x l k a.1 b n,
)

parts-apart : (xs : List ℕ) → Rising xs → Apart (parts xs)
parts-apart [] r = ((λ m. Memᴰ.not-nil m), tt)
parts-apart (x ∷ xs) r = apart-append x (parts xs) (parts xs) (parts-apart xs r.1) (parts-apart xs r.1)
    (λ C m. omega (arith, r.0 x ((part-choice xs (x ∷ C) r.1 m).1 x (elem-here x C))))

-- each once,
pub choices-apart : (L : List ℕ) → Apart (choices L)
choices-apart L = parts-apart (rising L) (rising-rising L)

-- and there are 2^m
pub choices-length : (L : List ℕ) → Distinct L → length (choices L) ≡ 2 ^ length L
choices-length L d = parts-length (rising L) ∙ ap (λ (n : ℕ). 2 ^ n) (rising-length L d)

-- of two equally long ones the first comes first: a search may go through them as they stand
abbrev pub Ordered : List (List ℕ) → Type 0
Ordered [] = Unit {0}
Ordered (C ∷ l) = ((D : List ℕ) → Memᴰ D l → length C ≡ length D → Before C D) × Ordered l

ordered-append : (x : ℕ) (l k : List (List ℕ)) → Ordered l → Ordered k → ((C D : List ℕ) → Memᴰ D k → length (x ∷ C) ≡ length D → Before (x ∷ C) D) → Ordered (map (λ (C : List ℕ). x ∷ C) l ++ k)
ordered-append x [] k a b n = b
ordered-append x (C ∷ l) k a b n = (
  (λ D m e. ⊎_elim (λ q. let w = Memᴰ.of_map (λ (C : List ℕ). x ∷ C) l q in subst (λ (E : List ℕ). Before (x ∷ C) E) w.2 (inr (refl, a.0 w.0 w.1 (suc_inj (e ∙ ap length (sym w.2))))))
      (λ q. n C D q e) (Memᴰ.append_cases (map (λ (C : List ℕ). x ∷ C) l) m)),
  ordered-append x l k a.1 b n,
)

parts-ordered : (xs : List ℕ) → Rising xs → Ordered (parts xs)
parts-ordered [] r = ((λ D m e. absurd (Memᴰ.not-nil m)), tt)
parts-ordered (x ∷ xs) r = ordered-append x (parts xs) (parts xs) (parts-ordered xs r.1) (parts-ordered xs r.1) (λ C D m e. later C D (part-choice xs D r.1 m) e)
  where
    later : (C D : List ℕ) → Choice xs D → length (x ∷ C) ≡ length D → Before (x ∷ C) D
    later C [] c e = absurd (suc-ne-zero (length C) e)
    later C (y ∷ D) c e = inl (r.0 y (c.1 y (elem-here y D)))

pub choices-ordered : (L : List ℕ) → Ordered (choices L)
choices-ordered L = parts-ordered (rising L) (rising-rising L)

-- WHICH CHOICE COMES SOONER: the smaller, and of two equally small ones the one that is first number by number
abbrev Sooner : List ℕ → List ℕ → Type 0
Sooner C D = (length C < length D) ⊎ ((length C ≡ length D) × Before C D)

pub before-not : (C : List ℕ) → Before C C → ⊥
before-not [] b = b
before-not (x ∷ C) b = ⊎_elim (λ (l : x < x). omega arith) (λ (q : (x ≡ x) × Before C C). before-not C q.1) b

pub before-trans : (C D E : List ℕ) → Before C D → Before D E → Before C E
before-trans [] D E b d = absurd b
before-trans (x ∷ C) [] E b d = absurd b
before-trans (x ∷ C) (y ∷ D) [] b d = absurd d
before-trans (x ∷ C) (y ∷ D) (z ∷ E) b d = ⊎_elim
    (λ (l : x < y). ⊎_elim (λ (k : y < z). inl (omega arith)) (λ (k : (y ≡ z) × Before D E). inl (omega (arith, k.0))) d)
    (λ (q : (x ≡ y) × Before C D). ⊎_elim (λ (k : y < z). inl (omega (arith, q.0))) (λ (k : (y ≡ z) × Before D E). inr (q.0 ∙ k.0, before-trans C D E q.1 k.1)) d) b

before-or : (C D : List ℕ) → length C ≡ length D → Before C D ⊎ ((C ≡ D) ⊎ Before D C)
before-or [] [] e = inr (inl refl)
before-or [] (y ∷ D) e = absurd (suc-ne-zero (length D) (sym e))
before-or (x ∷ C) [] e = absurd (suc-ne-zero (length C) e)
before-or (x ∷ C) (y ∷ D) e = ⊎_elim
    (λ (q : x ≡ y). ⊎_elim (λ b. inl (inr (q, b))) (λ k. inr (⊎_elim (λ (t : C ≡ D). inl (ap₂ {C = List ℕ} (λ (a : ℕ) (r : List ℕ). a ∷ r) q t)) (λ b. inr (inr (sym q, b))) k)) (before-or C D (suc_inj e)))
    (λ (q : x ≢ y). ⊎_elim (λ (t : ltb x y ≡ true). inl (inl (ltb-true x y t))) (λ (t : ltb x y ≡ false). inr (inr (inl (omega (arith, ltb-false x y t))))) (cases_Bool (ltb x y)))
    (same? x y)

sooner-not : (C : List ℕ) → Sooner C C → ⊥
sooner-not C s = ⊎_elim (λ (l : length C < length C). omega arith) (λ (q : (length C ≡ length C) × Before C C). before-not C q.1) s

sooner-trans : (C D E : List ℕ) → Sooner C D → Sooner D E → Sooner C E
sooner-trans C D E s t = ⊎_elim
    (λ (l : length C < length D). ⊎_elim (λ (k : length D < length E). inl (omega arith)) (λ (k : (length D ≡ length E) × Before D E). inl (omega (arith, k.0))) t)
    (λ (q : (length C ≡ length D) × Before C D). ⊎_elim (λ (k : length D < length E). inl (omega (arith, q.0))) (λ (k : (length D ≡ length E) × Before D E). inr (q.0 ∙ k.0, before-trans C D E q.1 k.1)) t) s

sooner-or : (C D : List ℕ) → Sooner C D ⊎ ((C ≡ D) ⊎ Sooner D C)
sooner-or C D = ⊎_elim
    (λ (e : length C ≡ length D). ⊎_elim (λ b. inl (inr (e, b))) (λ k. inr (⊎_elim (λ t. inl t) (λ b. inr (inr (sym e, b))) k)) (before-or C D e))
    (λ (n : length C ≢ length D). ⊎_elim (λ (t : ltb (length C) (length D) ≡ true). inl (inl (ltb-true (length C) (length D) t))) (λ (t : ltb (length C) (length D) ≡ false). inr (inr (inl (omega (arith, ltb-false (length C) (length D) t))))) (cases_Bool (ltb (length C) (length D))))
    (same? (length C) (length D))

module _ (P : Program) (Q : Question) (L : List ℕ) where
  -- every sooner choice is reached
  cure-sooner : (C D : List ℕ) → Cure P Q L C → Choice L D → Sooner D C → Reached (strike P D) Q
  cure-sooner C D c h s = ⊎_elim (λ (l : length D < length C). c.fewest D h l) (λ (q : (length D ≡ length C) × Before D C). c.first D h q.0 q.1) s

  -- AT MOST ONE ANSWER IS RIGHT
  pub cure-one : (a b : Option (List ℕ)) → Cured P Q L a → Cured P Q L b → a ≡ b
  cure-one none none h k = refl
  cure-one none (some D) h k = absurd (k.unreached (h D k.choice))
  cure-one (some C) none h k = absurd (h.unreached (k C h.choice))
  cure-one (some C) (some D) h k = ⊎_elim
      (λ (s : Sooner C D). absurd (h.unreached (cure-sooner D C k h.choice s)))
      (λ (t : (C ≡ D) ⊎ Sooner D C). ⊎_elim (λ (e : C ≡ D). ap (λ (z : List ℕ). some z) e) (λ (s : Sooner D C). absurd (k.unreached (cure-sooner C D h k.choice s))) t)
      (sooner-or C D)

  -- "no choice does" exactly if striking all is reached
  pub no-cure : NoCure P Q L ↔ Reached (strike P L) Q
  no-cure = (
    (λ h. subst (λ (R : Program). Reached R Q) (strike-same P (rising L) L (λ x e. sym (rising-elem x L) ∙ e) (λ x e. rising-elem x L ∙ e)) (h (rising L) (rising-rising L, λ x e. sym (rising-elem x L) ∙ e))),
    (λ r C c. still-reached P Q C L c.1 r),
  )

  -- "if the verdict is unreached already, the choice is empty", and only then
  pub empty-cure : Cure P Q L [] ↔ (Reached P Q → ⊥)
  empty-cure = (
    (λ c r. c.unreached (subst (λ (R : Program). Reached R Q) (sym (strike-none P)) r)),
    (λ n. record {
      choice = (tt, (λ x e. absurd (false≢true e)));
      unreached = λ r. n (subst (λ (R : Program). Reached R Q) (strike-none P) r);
      fewest = λ D c l. absurd (omega (arith, l));
      first = λ D c e b. absurd (before-nil D b);
    }),
  )
    where
      before-nil : (D : List ℕ) → Before D [] → ⊥
      before-nil [] b = b
      before-nil (x ∷ D) b = b

-- THE COUNTS
counts_all : (P : Program) (Q : Question) {l : List (List ℕ)} {r u : ℕ} → Counts P Q l r u → r + u ≡ length l
counts_all P Q nothing = refl
counts_all P Q (reached h c) = omega (arith, counts_all P Q c)
counts_all P Q (unreached h c) = omega (arith, counts_all P Q c)

counts-one : (P : Program) (Q : Question) {l : List (List ℕ)} {r u r' u' : ℕ} → Counts P Q l r u → Counts P Q l r' u' → (r ≡ r') × (u ≡ u')
counts-one P Q nothing nothing = (refl, refl)
counts-one P Q (reached h c) (reached k d) = let e = counts-one P Q c d in (ap suc e.0, e.1)
counts-one P Q (reached h c) (unreached k d) = absurd (k h)
counts-one P Q (unreached h c) (reached k d) = absurd (h k)
counts-one P Q (unreached h c) (unreached k d) = let e = counts-one P Q c d in (e.0, ap suc e.1)

-- the quotient and the rest are the only share and remainder
share-one : (m r s t : ℕ) → 100 * r ≡ s * 2 ^ m + t → t < 2 ^ m → (s ≡ 100 * r / 2 ^ m) × (t ≡ 100 * r % 2 ^ m)
share-one m r s t h l = (
  sym (ap (λ (n : ℕ). n / 2 ^ m) h ∙ mul-add-div_right (pow_pos m) s t ∙ rw (div-eq_of_lt l) (omega arith)),
  sym (ap (λ (n : ℕ). n % 2 ^ m) h ∙ mul-add-mod_self_right s (2 ^ m) t ∙ mod-eq_of_lt l),
)

module _ (P : Program) (Q : Question) (L : List ℕ) where
  -- AT MOST ONE TALLY IS RIGHT
  pub tally-one : (r u s t r' u' s' t' : ℕ) → Tally P Q L r u s t → Tally P Q L r' u' s' t' → (r ≡ r') × (u ≡ u') × (s ≡ s') × (t ≡ t')
  tally-one r u s t r' u' s' t' h k =
      let e = counts-one P Q h.counts k.counts in
      let a = share-one (length L) r s t h.hundredths h.below in
      let b = share-one (length L) r' s' t' k.hundredths k.below in
      (e.0, e.1, a.0 ∙ rw e.0 (sym b.0), a.1 ∙ rw e.0 (sym b.1))

  -- reached and unreached choices are all 2^m
  pub tally-all : (r u s t : ℕ) → Distinct L → Tally P Q L r u s t → r + u ≡ 2 ^ length L
  tally-all r u s t d h = counts_all P Q h.counts ∙ choices-length L d

-- IN TERMS OF WHAT IS KEPT: of the listed lines keep those of K and strike the rest
struck-elem : (L K : List ℕ) (x : ℕ) → elem x (unkept L K) ≡ (elem x L && not (elem x K))
struck-elem [] K x = refl
struck-elem (y ∷ L) K x = ⊎_elim
    (λ (q : elem y K ≡ true). rw (q, struck-elem L K x) (⊎_elim (λ (t : eqb x y ≡ true). rw (t, subst (λ (z : ℕ). elem z K ≡ true) (sym (eqb-true x y t)) q) (and-false (elem x L))) (λ (t : eqb x y ≡ false). rw t) (cases_Bool (eqb x y))))
    (λ (q : elem y K ≡ false). rw (q, struck-elem L K x) (⊎_elim (λ (t : eqb x y ≡ true). rw (t, subst (λ (z : ℕ). elem z K ≡ false) (sym (eqb-true x y t)) q)) (λ (t : eqb x y ≡ false). rw t) (cases_Bool (eqb x y))))
    (cases_Bool (elem y K))

unkept-fewer : (L K K' : List ℕ) → Among K K' → Among (unkept L K') (unkept L K)
unkept-fewer L K K' h x e =
    let k = (and-eq-true_iff (elem x L) (not (elem x K'))).0 (sym (struck-elem L K' x) ∙ e) in
    struck-elem L K x ∙ (and-eq-true_iff (elem x L) (not (elem x K))).1 (k.0, ⊎_elim (λ (t : elem x K ≡ true). clash (h x t) (not-true (elem x K') k.1)) (λ (t : elem x K ≡ false). rw t) (cases_Bool (elem x K)))

-- "A REACHED CHOICE OF KEPT LINES IS STILL REACHED WITH ANY FURTHER LINE KEPT"
pub further-kept : (P : Program) (Q : Question) (L K : List ℕ) (ℓ : ℕ) → Reached (strike P (unkept L K)) Q → Reached (strike P (unkept L (ℓ ∷ K))) Q
further-kept P Q L K ℓ r = still-reached P Q (unkept L (ℓ ∷ K)) (unkept L K) (unkept-fewer L K (ℓ ∷ K) (λ x e. or_right (eqb x ℓ) (elem x K) e)) r

-- keeping all of them is the whole text, and keeping none strikes all
pub all-kept : (P : Program) (L : List ℕ) → strike P (unkept L L) ≡ P
all-kept P L = strike-same P (unkept L L) [] (λ x e. let k = (and-eq-true_iff (elem x L) (not (elem x L))).0 (sym (struck-elem L L x) ∙ e) in clash k.0 (not-true (elem x L) k.1)) (λ x e. absurd (false≢true e)) ∙ strike-none P

pub none_kept : (L : List ℕ) → unkept L [] ≡ L
none_kept [] = refl
none_kept (x ∷ L) = ap {B = List ℕ} (λ (r : List ℕ). x ∷ r) (none_kept L)
