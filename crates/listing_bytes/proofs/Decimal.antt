-- The numeral of a number.
use mathlib.Core.Path.{◌≡◌, refl, sym, ap, ◌∙◌, subst}
use mathlib.Core.List.{List, [], ◌∷◌, ◌++◌}
use Prim.Native.Nat.{ℕ, zero, suc, ◌+◌, ◌-◌, ◌*◌, ◌/◌, ◌%◌, ◌^◌, ◌≤◌, ◌<◌}
use native.Mathlib.Nat.{pow-suc}
use native.Mathlib.Decide.{dec_lt}
use native.Mathlib.Omega.{arith}
use borrow.Author.Tests.{lt-ltb, le-ltb}
use lib.ListN.{length, get_or, take, length-append, get_or-append}
use lib.Seq.{get_or_at, take_all, take-suc, length-take-le}
use mir.Syntax.{w32}
use mir.Val.{Fits}
use Rattle.listing_bytes.specs.Numerals.{digit, last_digits, decimal, value_after, Numeral}

-- below or not
split : {P : Type 0} (a b : ℕ) → (a < b → P) → (b ≤ a → P) → P
split a b f g = elim (dec_lt a b) [ yes h ↦ f h | no h ↦ g (omega arith) ]

-- a last digit, and the digits before it
small : (k n : ℕ) → n < 10 → last_digits (suc k) n ≡ digit n ∷ []
small k n h = rw (lt-ltb n 10 h, last_digits)

large : (k n : ℕ) → 10 ≤ n → last_digits (suc k) n ≡ last_digits k (n / 10) ++ digit (n % 10) ∷ []
large k n h = rw (le-ltb n 10 h, last_digits)

-- room for more digits changes nothing
enough : (k j n : ℕ) → n < k → n < j → last_digits k n ≡ last_digits j n
enough zero j n h i = absurd (omega arith)
enough (suc k) zero n h i = absurd (omega arith)
enough (suc k) (suc j) n h i = split n 10 (λ l. small k n l ∙ sym (small j n l))
    (λ l. large k n l ∙ ap (λ (s : List ℕ). s ++ digit (n % 10) ∷ []) (enough k j (n / 10) (omega arith) (omega arith)) ∙ sym (large j n l))

pub decimal-small : (n : ℕ) → n < 10 → decimal n ≡ digit n ∷ []
unfolding decimal
decimal-small n h = small n n h

pub decimal-large : (n : ℕ) → 10 ≤ n → decimal n ≡ decimal (n / 10) ++ digit (n % 10) ∷ []
unfolding decimal
decimal-large n h = large n n h ∙ ap (λ (s : List ℕ). s ++ digit (n % 10) ∷ []) (enough n (suc (n / 10)) (n / 10) (omega arith) (omega arith))

pub decimal-longer : (n : ℕ) → 10 ≤ n → length (decimal n) ≡ length (decimal (n / 10)) + 1
decimal-longer n h = ap length (decimal-large n h) ∙ length-append (decimal (n / 10)) (digit (n % 10) ∷ [])

-- a number below 10 ^ (k + 1) has at most k + 1 digits
pub decimal-short : (k n : ℕ) → n < 10 ^ suc k → length (decimal n) ≤ suc k
decimal-short zero n h = rw (decimal-small n h) (omega arith)
decimal-short (suc k) n h = split n 10 (λ l. rw (decimal-small n l) (omega arith))
    (λ l. let u : n < 10 ^ suc k * 10 = (rw (pow-suc 10 (suc k)) at h) in omega (arith, decimal-longer n l, decimal-short k (n / 10) (omega arith)))

pub word-short : (n : ℕ) → Fits w32 n → length (decimal n) ≤ 10
word-short n h = decimal-short 9 n (omega (arith, h.fits))

-- READING BACK
value-more : (m : ℕ) (s : List ℕ) (b : ℕ) → value_after m (s ++ b ∷ []) ≡ value_after m s * 10 + (b - 48)
value-more m [] b = refl
value-more m (c ∷ s) b = value-more (m * 10 + (c - 48)) s b

value-above : (m : ℕ) (s : List ℕ) → m ≤ value_after m s
value-above m [] = omega arith
value-above m (b ∷ s) = omega (arith, value-above (m * 10 + (b - 48)) s)

-- digits that do not begin with 0 stand for a number above 0
value-positive : (s : List ℕ) → 1 ≤ length s → 48 < get_or s 0 0 → 1 ≤ value_after 0 s
value-positive [] h l = absurd (omega arith)
value-positive (b ∷ s) h l = omega (arith, value-above (0 * 10 + (b - 48)) s)

-- `0` alone
value-zero : (s : List ℕ) → length s ≡ 1 → get_or s 0 0 ≡ 48 → value_after 0 s ≡ 0
value-zero [] h l = absurd (omega arith)
value-zero (b ∷ []) h l = omega arith
value-zero (b ∷ c ∷ s) h l = absurd (omega arith)

one : (n : ℕ) → n < 10 → Numeral n (digit n ∷ [])
one n h = record {
  some = omega arith;
  digits = λ k l. only k l;
  leading = λ e. refl;
  value = omega arith;
}
  where
    only : (k : ℕ) → k < 1 → (48 ≤ get_or (digit n ∷ []) k 0) × (get_or (digit n ∷ []) k 0 ≤ 57)
    only zero l = omega arith
    only (suc k) l = absurd (omega arith)

more : (n : ℕ) (s : List ℕ) → 10 ≤ n → Numeral (n / 10) s → Numeral n (s ++ digit (n % 10) ∷ [])
more n s h N =
    let size : length (s ++ digit (n % 10) ∷ []) ≡ length s + 1 = length-append s (digit (n % 10) ∷ []) in
    record {
      some = omega arith;
      digits = λ k l. split k (length s) (λ i. rw (get_or-append s (digit (n % 10) ∷ []) 0 k i) (N.digits k i))
          (λ i. rw (get_or_at s (digit (n % 10)) [] 0 k (omega arith)) (omega arith));
      leading = λ e.
          let e' : get_or s 0 0 ≡ 48 = sym (get_or-append s (digit (n % 10) ∷ []) 0 0 N.some) ∙ e in
          absurd (omega (arith, value-zero s (N.leading e') e', N.value));
      value = value-more 0 s (digit (n % 10)) ∙ omega (arith, N.value);
    }

-- `decimal n` is a numeral of n
pub decimal-numeral : (n : ℕ) → Numeral n (decimal n)
decimal-numeral n = below (suc n) n (omega arith)
  where
    below : (k n : ℕ) → n < k → Numeral n (decimal n)
    below zero n h = absurd (omega arith)
    below (suc k) n h = split n 10 (λ l. rw (decimal-small n l) (one n l)) (λ l. rw (decimal-large n l) (more n (decimal (n / 10)) l (below k (n / 10) (omega arith))))

-- and there is no other: the last digit of any is n % 10, and those before it are a numeral of n / 10
last : (k n b : ℕ) (s : List ℕ) → length s ≡ suc k → Numeral n (s ++ b ∷ []) → (10 ≤ n) × Numeral (n / 10) s × (b ≡ digit (n % 10))
last k n b s size N =
    let all : length (s ++ b ∷ []) ≡ length s + 1 = length-append s (b ∷ []) in
    let lastly : (48 ≤ b) × (b ≤ 57) = rw (get_or_at s b [] 0 (length s) refl) at (N.digits (length s) (omega arith)) in
    let each : (i : ℕ) → i < length s → (48 ≤ get_or s i 0) × (get_or s i 0 ≤ 57) = λ i l. rw (get_or-append s (b ∷ []) 0 i l) at (N.digits i (omega arith)) in
    let first : get_or s 0 0 ≡ 48 → ⊥ = λ e. omega (arith, N.leading (get_or-append s (b ∷ []) 0 0 (omega arith) ∙ e)) in
    let v : value_after 0 s * 10 + (b - 48) ≡ n = sym (value-more 0 s b) ∙ N.value in
    let positive : 1 ≤ value_after 0 s = value-positive s (omega arith) (let l = each 0 (omega arith) in omega (arith, first)) in (
      omega arith,
      record { some = omega arith; digits = each; leading = λ e. absurd (first e); value = omega arith },
      omega arith,
    )

single : (n : ℕ) (s : List ℕ) → length s ≡ 1 → Numeral n s → s ≡ decimal n
single n [] size N = absurd (omega arith)
single n (b ∷ []) size N =
    let d = N.digits 0 (omega arith) in
    let v = N.value in
    let e : b ≡ digit n = omega arith in
    ap (λ (c : ℕ). c ∷ []) e ∙ sym (decimal-small n (omega arith))
single n (b ∷ c ∷ s) size N = absurd (omega arith)

by_length : (k n : ℕ) (s : List ℕ) → length s ≡ suc k → Numeral n s → s ≡ decimal n
by_length zero n s size N = single n s size N
by_length (suc k) n s size N =
    let t : List ℕ = take (suc k) s in
    let size' : length t ≡ suc k = length-take-le (suc k) s (omega arith) in
    let e : s ≡ t ++ get_or s (suc k) 0 ∷ [] = sym (take_all (suc (suc k)) s (omega arith)) ∙ take-suc s (suc k) 0 (omega arith) in
    let l = last k n (get_or s (suc k) 0) t size' (subst (Numeral n) e N) in
    e ∙ rw (by_length k (n / 10) t size' l.1, l.2) (sym (decimal-large n l.0))

pub decimal-only : (n : ℕ) (s : List ℕ) → Numeral n s → s ≡ decimal n
decimal-only n [] N = absurd (omega (arith, N.some))
decimal-only n (b ∷ s) N = by_length (length s) n (b ∷ s) refl N
