-- A place's number stands for it, and a number that stands for a place is its number.
use mathlib.Core.Path.{◌≡◌, refl, sym, ap, ◌∙◌, subst}
use mathlib.Core.Logic.{◌⊎◌, inl, inr, ⊎_elim, ◌≢◌}
use mathlib.Core.Bool.{true, false, ◌||◌}
use mathlib.Core.List.{List, [], ◌∷◌}
use mathlib.Core.Option.{some, none-ne-some, some-injective}
use Prim.Native.Nat.{ℕ, ◌+◌, ◌*◌, ◌/◌, ◌%◌, ◌≤◌, ◌<◌}
use native.Mathlib.Omega.{arith}
use native.Mathlib.Decide.{dec_le}
use borrow.Author.Tests.{lt-ltb, le-ltb, eq-eqb, ne_eqb}
use lib.ListN.{length, get_or}
use Rattle.std.proofs.lemmas.Bool.{cases_Bool}
use Rattle.semantics.specs.Runs as runs
use Rattle.semantics.specs.Runs.{step, meet}
use Rattle.semantics.proofs.Tools.{same?, clash, or_right}
use Rattle.model.specs.declared.Place.{Place}
use Rattle.model.specs.declared.Place.TheVariants.{Step, Meeting, Malformed}
use Rattle.model.specs.Places.{number_of, gap_at, placed, numeral, objects, stands_for, place_of, Objects, Numerable, Proper}

-- THE PLACE of a number by its parts
module _ (n : ℕ) where
  pub placed-step : n < 2147483648 → n % 256 ≢ 255 → placed n ≡ Step (n / 256) (n % 256)
  unfolding placed
  placed-step h o = simp (lt-ltb _ _ h, ne_eqb _ _ o)

  pub placed-odd : n < 2147483648 → n % 256 ≡ 255 → placed n ≡ Malformed
  unfolding placed
  placed-odd h o = simp (lt-ltb _ _ h, eq-eqb _ _ o)

  placed-gap : 2147483648 ≤ n → (gap_at (n / 65536 % 256) (n / 256 % 256) || gap_at (n / 256 % 256) (n % 256)) ≡ true → placed n ≡ Malformed
  unfolding placed
  placed-gap h g = rw (le-ltb _ _ h, g)

  pub placed-second : 2147483648 ≤ n → gap_at (n / 65536 % 256) (n / 256 % 256) ≡ true → placed n ≡ Malformed
  placed-second h g = placed-gap h (rw g)

  pub placed-third : 2147483648 ≤ n → gap_at (n / 256 % 256) (n % 256) ≡ true → placed n ≡ Malformed
  placed-third h g = placed-gap h (or_right (gap_at (n / 65536 % 256) (n / 256 % 256)) (gap_at (n / 256 % 256) (n % 256)) g)

  pub placed-meeting : 2147483648 ≤ n → gap_at (n / 65536 % 256) (n / 256 % 256) ≡ false → gap_at (n / 256 % 256) (n % 256) ≡ false
      → placed n ≡ Meeting (n / 16777216 % 128) (n / 65536 % 256) (n / 256 % 256) (n % 256)
  unfolding placed
  placed-meeting h f g = rw (le-ltb _ _ h, f, g)

-- THE PARTS of a place's number are its own
placed-step-number : (n ℓ o : ℕ) → n ≡ ℓ * 256 + o → ℓ < 8388608 → o < 255 → placed n ≡ Step ℓ o
placed-step-number n ℓ o e h g =
    let eo : n % 256 ≡ o = omega arith in
    let el : n / 256 ≡ ℓ = omega arith in
    rw (placed-step n (omega arith) (omega arith), eo, el)

placed-meeting-number : (n i a b c : ℕ) → n ≡ 2147483648 + i * 16777216 + a * 65536 + b * 256 + c → Proper (Meeting i a b c) → placed n ≡ Meeting i a b c
placed-meeting-number n i a b c e (hi, ha, hb, hc, f, g) =
    let ei : n / 16777216 % 128 ≡ i = omega arith in
    let ea : n / 65536 % 256 ≡ a = omega arith in
    let eb : n / 256 % 256 ≡ b = omega arith in
    let ec : n % 256 ≡ c = omega arith in
    rw (placed-meeting n (omega arith) (rw (ea, eb) f) (rw (eb, ec) g), ei, ea, eb, ec)

numeral-meeting : (i a b c : ℕ) → i < 128 → a < 256 → b < 256 → c < 256 → numeral (Meeting i a b c) ≡ 2147483648 + i * 16777216 + a * 65536 + b * 256 + c
numeral-meeting i a b c hi ha hb hc = omega arith

pub placed-numeral : (p : Place) → Proper p → placed (numeral p) ≡ p
placed-numeral (Step ℓ o) (h, g) = placed-step-number (numeral (Step ℓ o)) ℓ o (omega arith) h g
placed-numeral (Meeting i a b c) h = placed-meeting-number (numeral (Meeting i a b c)) i a b c (numeral-meeting i a b c h.0 h.1 h.2 h.3) h
placed-numeral Malformed h = placed-odd 255 (omega arith) refl

no_gap : (a b : ℕ) → gap_at a b ≡ false → a ≡ 255 → b ≡ 255
no_gap a b f e = ⊎_elim (λ q. q) (λ n. clash {b = gap_at a b} (rw (eq-eqb a 255 e, ne_eqb b 255 n)) f) (same? b 255)

named-no-gap : (a b : ℕ) → a < 255 → gap_at a b ≡ false
named-no-gap a b h = rw (ne_eqb a 255 (omega arith))

-- the objects before the first 255 are the named ones
module _ (a b c : ℕ) (ha : a < 256) (hb : b < 256) (hc : c < 256) (f : gap_at a b ≡ false) (g : gap_at b c ≡ false) where
  abbrev Parts : List ℕ → Type 0
  Parts os = (get_or os 0 255 ≡ a) × (get_or os 1 255 ≡ b) × (get_or os 2 255 ≡ c) × (length os ≤ 3) × Objects os

  parts : Parts (objects (a ∷ b ∷ c ∷ []))
  parts = go (same? a 255) (same? b 255) (same? c 255)
    where
      go : (a ≡ 255) ⊎ (a ≢ 255) → (b ≡ 255) ⊎ (b ≢ 255) → (c ≡ 255) ⊎ (c ≢ 255) → Parts (objects (a ∷ b ∷ c ∷ []))
      go (inl p) q r = let eb = no_gap a b f p in let ec = no_gap b c g eb in rw (eq-eqb _ _ p) (sym p, sym eb, sym ec, omega arith, tt)
      go (inr p) (inl q) r = let ec = no_gap b c g q in rw (ne_eqb _ _ p, eq-eqb _ _ q) (refl, sym q, sym ec, omega arith, (omega arith, tt))
      go (inr p) (inr q) (inl r) = rw (ne_eqb _ _ p, ne_eqb _ _ q, eq-eqb _ _ r) (refl, refl, sym r, omega arith, (omega arith, (omega arith, tt)))
      go (inr p) (inr q) (inr r) = rw (ne_eqb _ _ p, ne_eqb _ _ q, ne_eqb _ _ r) (refl, refl, refl, omega arith, (omega arith, (omega arith, (omega arith, tt))))

-- a number is the sum of its bytes
bytes : (n : ℕ) → n ≡ n / 16777216 * 16777216 + n / 65536 % 256 * 65536 + n / 256 % 256 * 256 + n % 256
bytes n =
    let e : n / 65536 ≡ n / 256 / 256 = omega arith in
    let f : n / 16777216 ≡ n / 65536 / 256 = omega arith in
    omega arith

-- a number is malformed, or its parts are a place's and have it as their number
pub numeral-placed : (n : ℕ) → n < 4294967296 → (placed n ≡ Malformed) ⊎ (Proper (placed n) × (numeral (placed n) ≡ n))
numeral-placed n h = go (dec_le 2147483648 n) (same? (n % 256) 255) (cases_Bool (gap_at a b)) (cases_Bool (gap_at b c))
  where
    a : ℕ
    a = n / 65536 % 256

    b : ℕ
    b = n / 256 % 256

    c : ℕ
    c = n % 256

    sum : 2147483648 ≤ n → numeral (Meeting (n / 16777216 % 128) a b c) ≡ n
    sum l = numeral-meeting (n / 16777216 % 128) a b c (omega arith) (omega arith) (omega arith) (omega arith) ∙ omega (arith, bytes n)

    Right : Place → Type 0
    Right p = (placed n ≡ Malformed) ⊎ (Proper p × (numeral p ≡ n))

    go : Dec (2147483648 ≤ n) → (c ≡ 255) ⊎ (c ≢ 255) → (gap_at a b ≡ true) ⊎ (gap_at a b ≡ false) → (gap_at b c ≡ true) ⊎ (gap_at b c ≡ false)
        → Right (placed n)
    go (no l) (inl o) f g = inl (placed-odd n (omega arith) o)
    go (no l) (inr o) f g = subst Right (sym (placed-step n (omega arith) o)) (inr (omega arith))
    go (yes l) o (inl f) g = inl (placed-second n l f)
    go (yes l) o (inr f) (inl g) = inl (placed-third n l g)
    go (yes l) o (inr f) (inr g) =
        subst Right (sym (placed-meeting n l f g)) (inr ((omega arith, omega arith, omega arith, omega arith, f, g), sum l))

-- the parts of a place have its number
pub numeral-number : (p : Place) → Proper p → (q : runs.Place) → stands_for p ≡ some q → (number_of q ≡ numeral p) × Numerable q
numeral-number (Step ℓ o) h q e = subst (λ (x : runs.Place). (number_of x ≡ numeral (Step ℓ o)) × Numerable x) (some-injective _ q e) (omega arith, h)
numeral-number (Meeting i a b c) (hi, ha, hb, hc, f, g) q e =
    let w = parts a b c ha hb hc f g in
    subst (λ (x : runs.Place). (number_of x ≡ numeral (Meeting i a b c)) × Numerable x) (some-injective _ q e) (omega arith, (hi, w.3, w.4))
numeral-number Malformed h q e = absurd (none-ne-some q e)

-- A NUMBER that stands for a place is the place's number
pub number-of-place : (n : ℕ) (q : runs.Place) → n < 4294967296 → place_of n ≡ some q → (number_of q ≡ n) × Numerable q
unfolding place_of
number-of-place n q h e =
    ⊎_elim
    (λ p. absurd (none-ne-some q (ap stands_for (sym p) ∙ e)))
    (λ w. let s = numeral-number (placed n) w.0 q e in (s.0 ∙ w.1, s.1))
    (numeral-placed n h)

-- the number of a place stands for it
place-of-meeting : (n i a b c : ℕ) (os : List ℕ) → n ≡ 2147483648 + i * 16777216 + a * 65536 + b * 256 + c → Proper (Meeting i a b c)
    → objects (a ∷ b ∷ c ∷ []) ≡ os → place_of n ≡ some (meet i os)
unfolding place_of
place-of-meeting n i a b c os e p o = ap stands_for (placed-meeting-number n i a b c e p) ∙ ap (λ (l : List ℕ). some (meet i l)) o

pub place-of-number : (q : runs.Place) → Numerable q → place_of (number_of q) ≡ some q
unfolding place_of
place-of-number (step ℓ o) (h, g) = ap stands_for (placed-step-number (number_of (step ℓ o)) ℓ o refl h g)
place-of-number (meet i []) (hi, l, t) =
    place-of-meeting (number_of (meet i [])) i 255 255 255 [] (omega arith) (hi, omega arith, omega arith, omega arith, refl, refl) refl
place-of-number (meet i (a ∷ [])) (hi, l, (ha, t)) =
    place-of-meeting (number_of (meet i (a ∷ []))) i a 255 255 (a ∷ []) (omega arith)
    (hi, omega arith, omega arith, omega arith, named-no-gap a 255 ha, refl)
    (rw (ne_eqb a 255 (omega arith)))
place-of-number (meet i (a ∷ b ∷ [])) (hi, l, (ha, (hb, t))) =
    place-of-meeting (number_of (meet i (a ∷ b ∷ []))) i a b 255 (a ∷ b ∷ []) (omega arith)
    (hi, omega arith, omega arith, omega arith, named-no-gap a b ha, named-no-gap b 255 hb)
    (rw (ne_eqb a 255 (omega arith), ne_eqb b 255 (omega arith)))
place-of-number (meet i (a ∷ b ∷ c ∷ [])) (hi, l, (ha, (hb, (hc, t)))) =
    place-of-meeting (number_of (meet i (a ∷ b ∷ c ∷ []))) i a b c (a ∷ b ∷ c ∷ []) (omega arith)
    (hi, omega arith, omega arith, omega arith, named-no-gap a b ha, named-no-gap b c hb)
    (rw (ne_eqb a 255 (omega arith), ne_eqb b 255 (omega arith), ne_eqb c 255 (omega arith)))
place-of-number (meet i (a ∷ b ∷ c ∷ d ∷ os)) (hi, l, t) = absurd (omega arith)
