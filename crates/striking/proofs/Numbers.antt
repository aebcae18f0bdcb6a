-- CHOICES AS NUMBERS: from the highest number down they are all choices, those of one length in their order.
use mathlib.Core.Path.{◌≡◌, refl, sym, ap, ap₂, ◌∙◌, subst}
use mathlib.Core.Logic.{◌⊎◌, inl, inr, ⊎_elim, ◌≢◌}
use mathlib.Core.Bool.{true, false}
use mathlib.Core.List.Memᴰ
use mathlib.Core.List.{List, [], ◌∷◌, ◌++◌, map, Memᴰ, map-append}
use Prim.Native.Nat.{ℕ, zero, suc, ◌+◌, ◌*◌, ◌^◌, ◌/◌, ◌%◌, ◌≤◌, ◌<◌, ◌-◌}
use native.Mathlib.Nat.{two-pow-succ, pow-succ', mul-add-div, mul-one, div-eq_of_lt, le_refl, not-suc-le-zero}
use native.Mathlib.Omega.{arith}
use lib.Pow.{pow_pos, pow-add}
use lib.Dec.{eqb, ltb}
use lib.ListN.{length}
use borrow.Author.Tests.{ltb-true, ltb-false}
use Rattle.std.proofs.lemmas.Bool.{cases_Bool}
use Rattle.semantics.specs.Labels.{has}
use Rattle.semantics.specs.Models.{elem, Program, Question}
use Rattle.semantics.specs.Questions.{Reached}
use Rattle.striking.specs.Striking.{strike, Among, Choice, Before, Cure, NoCure, rising, parts, choices}
use Rattle.striking.specs.Numbers.{numbered, falling}
use Rattle.semantics.proofs.Tools.{same?, or_right, each-cons, elem-here}
use Rattle.semantics.proofs.Sets.{has-beyond}
use Rattle.striking.proofs.Choices.{choices-all, Ordered, choices-ordered, before-not, before-trans}

-- the highest bit
has-top : (m n : ℕ) → n < 2 ^ m → has (2 ^ m + n) m ≡ true
unfolding has
has-top m n l = rw (quotient)
  where
    quotient : (2 ^ m + n) / 2 ^ m ≡ 1
    quotient = subst (λ (k : ℕ). (k + n) / 2 ^ m ≡ 1) (mul-one (2 ^ m)) (mul-add-div (pow_pos m) 1 n ∙ rw (div-eq_of_lt l))

-- those below
has-low : (m n a : ℕ) → a < m → has (2 ^ m + n) a ≡ has n a
unfolding has
has-low m n a l = ap (λ (k : ℕ). eqb k 1) same
  where
    d : ℕ
    d = m - suc a

    split : 2 ^ m ≡ 2 ^ a * (2 * 2 ^ d)
    split = ap (λ (k : ℕ). 2 ^ k) (let e : m ≡ a + suc d = omega arith in e) ∙ pow-add 2 a (suc d) ∙ ap (λ (k : ℕ). 2 ^ a * k) (pow-succ' 2 d)

    quotient : (2 ^ m + n) / 2 ^ a ≡ 2 * 2 ^ d + n / 2 ^ a
    quotient = ap (λ (k : ℕ). (k + n) / 2 ^ a) split ∙ mul-add-div (pow_pos a) (2 * 2 ^ d) n

    same : (2 ^ m + n) / 2 ^ a % 2 ≡ n / 2 ^ a % 2
    same = ap (λ (k : ℕ). k % 2) quotient ∙ omega arith

numbered-low : (ys : List ℕ) (m n : ℕ) → length ys ≤ m → numbered ys (2 ^ m + n) ≡ numbered ys n
numbered-low [] m n l = refl
numbered-low (y ∷ ys) m n l = rw (has-low m n (length ys) l, numbered-low ys m n (omega arith))

falling-add : (a b : ℕ) → falling (a + b) ≡ map (λ (n : ℕ). a + n) (falling b) ++ falling a
falling-add a zero = ap falling (let e : a + 0 ≡ a = omega arith in e)
falling-add a (suc b) = ap falling (let e : a + suc b ≡ suc (a + b) = omega arith in e) ∙ ap {B = List ℕ} (λ (r : List ℕ). (a + b) ∷ r) (falling-add a b)

map_below : (f g : ℕ → List ℕ) (k : ℕ) → ((n : ℕ) → n < k → f n ≡ g n) → map f (falling k) ≡ map g (falling k)
map_below f g zero h = refl
map_below f g (suc k) h = ap₂ {C = List (List ℕ)} (λ (a : List ℕ) (r : List (List ℕ)). a ∷ r) (h k (omega arith)) (map_below f g k (λ n l. h n (omega arith)))

map-top : (x a : ℕ) (h f : ℕ → List ℕ) (k : ℕ) → ((n : ℕ) → n < k → (x ∷ h n) ≡ f (a + n)) → map (λ (C : List ℕ). x ∷ C) (map h (falling k)) ≡ map f (map (λ (n : ℕ). a + n) (falling k))
map-top x a h f zero e = refl
map-top x a h f (suc k) e = ap₂ {C = List (List ℕ)} (λ (c : List ℕ) (r : List (List ℕ)). c ∷ r) (e k (omega arith)) (map-top x a h f k (λ n l. e n (omega arith)))

parts-numbered : (xs : List ℕ) → parts xs ≡ map (numbered xs) (falling (2 ^ length xs))
parts-numbered [] = refl
parts-numbered (x ∷ xs) =
    ap (λ (l : List (List ℕ)). map (λ (C : List ℕ). x ∷ C) l ++ l) (parts-numbered xs)
    ∙ ap₂ {C = List (List ℕ)} (λ (l k : List (List ℕ)). l ++ k) (map-top x (2 ^ length xs) (numbered xs) (numbered (x ∷ xs)) (2 ^ length xs) upper) (map_below (numbered xs) (numbered (x ∷ xs)) (2 ^ length xs) lower)
    ∙ sym (map-append (numbered (x ∷ xs)) (map (λ (n : ℕ). 2 ^ length xs + n) (falling (2 ^ length xs))) (falling (2 ^ length xs)))
    ∙ ap (λ (l : List ℕ). map (numbered (x ∷ xs)) l) (sym (falling-add (2 ^ length xs) (2 ^ length xs)) ∙ ap falling (sym (two-pow-succ (length xs))))
  where
    upper : (n : ℕ) → n < 2 ^ length xs → (x ∷ numbered xs n) ≡ numbered (x ∷ xs) (2 ^ length xs + n)
    upper n l = rw (has-top (length xs) n l, numbered-low xs (length xs) n (le_refl (length xs)))

    lower : (n : ℕ) → n < 2 ^ length xs → numbered xs n ≡ numbered (x ∷ xs) n
    lower n l = rw (has-beyond n (length xs) (length xs) l (le_refl (length xs)))

-- ALL CHOICES, IN ORDER, from the highest number down
pub choices-numbered : (L : List ℕ) → choices L ≡ map (numbered (rising L)) (falling (2 ^ length (rising L)))
choices-numbered L = parts-numbered (rising L)

-- each number gives a choice,
falling-has : (f : ℕ → List ℕ) (k n : ℕ) → n < k → Memᴰ (f n) (map f (falling k))
falling-has f zero n l = absurd (not-suc-le-zero l)
falling-has f (suc k) n l = ⊎_elim (λ (e : n ≡ k). Memᴰ.head (ap f e)) (λ (e : n ≢ k). Memᴰ.tail (falling-has f k n (omega arith))) (same? n k)

pub number-choice : (L : List ℕ) (n : ℕ) → n < 2 ^ length (rising L) → Choice L (numbered (rising L) n)
number-choice L n l = (choices-all L (numbered (rising L) n)).0 (subst (λ (p : List (List ℕ)). Memᴰ (numbered (rising L) n) p) (sym (choices-numbered L)) (falling-has (numbered (rising L)) (2 ^ length (rising L)) n l))

-- and each choice has a number
falling-number : (f : ℕ → List ℕ) (k : ℕ) (C : List ℕ) → Memᴰ C (map f (falling k)) → (n : ℕ) × (n < k) × (C ≡ f n)
falling-number f zero C m = absurd (Memᴰ.not-nil m)
falling-number f (suc k) C m = ⊎_elim (λ (e : C ≡ f k). (k, omega arith, e)) (λ q. let r = falling-number f k C q in (r.0, omega arith, r.2)) (Memᴰ.cases_cons m)

choice-number : (L C : List ℕ) → Choice L C → (n : ℕ) × (n < 2 ^ length (rising L)) × (C ≡ numbered (rising L) n)
choice-number L C c = falling-number (numbered (rising L)) (2 ^ length (rising L)) C (subst (λ (l : List (List ℕ)). Memᴰ C l) (choices-numbered L) ((choices-all L C).1 c))

-- of two equally long choices that of the higher number comes first, and only that
falling-ordered : (f : ℕ → List ℕ) (b k n : ℕ) → Ordered (map f (falling b)) → n < k → k < b → length (f k) ≡ length (f n) → Before (f k) (f n)
falling-ordered f zero k n o l m e = absurd (not-suc-le-zero m)
falling-ordered f (suc b) k n o l m e = ⊎_elim
    (λ (q : k ≡ b). subst (λ (z : ℕ). Before (f z) (f n)) (sym q) (o.0 (f n) (falling-has f b n (omega arith)) (ap (λ (z : ℕ). length (f z)) (sym q) ∙ e)))
    (λ (q : k ≢ b). falling-ordered f b k n o.1 l (omega arith) e)
    (same? k b)

module _ (L : List ℕ) where
  abbrev xs : List ℕ
  xs = rising L

  higher-before : (k n : ℕ) → n < k → k < 2 ^ length xs → length (numbered xs k) ≡ length (numbered xs n) → Before (numbered xs k) (numbered xs n)
  higher-before k n = falling-ordered (numbered xs) (2 ^ length xs) k n (subst Ordered (choices-numbered L) (choices-ordered L))

  before-higher : (k n : ℕ) → n < 2 ^ length xs → length (numbered xs k) ≡ length (numbered xs n) → Before (numbered xs k) (numbered xs n) → n < k
  before-higher k n l e b = ⊎_elim
      (λ (q : ltb n k ≡ true). ltb-true n k q)
      (λ (q : ltb n k ≡ false). absurd (⊎_elim
      (λ (s : k ≡ n). before-not (numbered xs n) (subst (λ (z : ℕ). Before (numbered xs z) (numbered xs n)) s b))
      (λ (s : k ≢ n). before-not (numbered xs n) (before-trans (numbered xs n) (numbered xs k) (numbered xs n) (higher-before n k (omega (arith, ltb-false n k q)) l (sym e)) b))
      (same? k n)))
      (cases_Bool (ltb n k))

  -- SOONER: the choice of number k is smaller than that of n, or equally small and of a higher number
  abbrev pub Sooner : ℕ → ℕ → Type 0
  Sooner k n = (length (numbered xs k) < length (numbered xs n)) ⊎ ((length (numbered xs k) ≡ length (numbered xs n)) × (n < k))

  -- THE CURE by numbers: an unreached choice before which all are reached
  pub cure-by : (P : Program) (Q : Question) (n : ℕ) → n < 2 ^ length xs → (Reached (strike P (numbered xs n)) Q → ⊥)
      → ((k : ℕ) → k < 2 ^ length xs → Sooner k n → Reached (strike P (numbered xs k)) Q) → Cure P Q L (numbered xs n)
  cure-by P Q n l u s = record {
    choice = number-choice L n l;
    unreached = u;
    fewest = λ D c h. let k = choice-number L D c in subst (λ (E : List ℕ). Reached (strike P E) Q) (sym k.2) (s k.0 k.1 (inl (subst (λ (E : List ℕ). length E < length (numbered xs n)) k.2 h)));
    first = λ D c e b. let k = choice-number L D c in
        let f = subst (λ (E : List ℕ). length E ≡ length (numbered xs n)) k.2 e in
        subst (λ (E : List ℕ). Reached (strike P E) Q) (sym k.2) (s k.0 k.1 (inr (f, before-higher k.0 n l f (subst (λ (E : List ℕ). Before E (numbered xs n)) k.2 b))));
  }

  -- no choice does, where each number is reached
  pub no-cure-by : (P : Program) (Q : Question) → ((k : ℕ) → k < 2 ^ length xs → Reached (strike P (numbered xs k)) Q) → NoCure P Q L
  no-cure-by P Q s C c = let k = choice-number L C c in subst (λ (E : List ℕ). Reached (strike P E) Q) (sym k.2) (s k.0 k.1)

-- more bits strike more lines
pub numbered_more : (xs : List ℕ) (n k : ℕ) → ((a : ℕ) → has n a ≡ true → has k a ≡ true) → Among (numbered xs n) (numbered xs k)
numbered_more [] n k h = λ z e. e
numbered_more (x ∷ xs) n k h = ⊎_elim
    (λ (q : has n (length xs) ≡ true). rw (q, h (length xs) q) (each-cons (λ (z : ℕ). elem z (x ∷ numbered xs k) ≡ true) x (numbered xs n) (elem-here x (numbered xs k)) (λ z e. or_right (eqb z x) (elem z (numbered xs k)) (numbered_more xs n k h z e))))
    (λ (q : has n (length xs) ≡ false). rw q (⊎_elim
    (λ (t : has k (length xs) ≡ true). rw t (λ z e. or_right (eqb z x) (elem z (numbered xs k)) (numbered_more xs n k h z e)))
    (λ (t : has k (length xs) ≡ false). rw t (numbered_more xs n k h)) (cases_Bool (has k (length xs)))))
    (cases_Bool (has n (length xs)))
