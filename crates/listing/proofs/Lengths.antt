-- How long the lines of the listing are.
use mathlib.Core.Path.{◌≡◌}
use mathlib.Core.Logic.{⊎_elim}
use mathlib.Core.Bool.{Bool, true, false, ◌||◌}
use mathlib.Core.List.{List, [], ◌∷◌, map}
use Prim.Native.Nat.{ℕ, ◌/◌, ◌%◌, ◌*◌, ◌≤◌, ◌<◌}
use native.Mathlib.Omega.{arith}
use lib.Dec.{eqb, ltb}
use lib.ListN.{length, length-append}
use borrow.Author.Tests.{ltb-true}
use mir.Syntax.{w32}
use mir.Val.{Fits}
use Rattle.std.proofs.lemmas.Bool.{cases_Bool}
use Rattle.semantics.specs.Runs.{step, meet}
use Rattle.model.specs.Places.{objects, gap_at, placed, place_of}
use Rattle.listing_bytes.specs.Numerals.{decimal}
use Rattle.listing_bytes.specs.Forms.{items}
use Rattle.listing_bytes.proofs.Decimal.{decimal-short, word-short}
use Rattle.listing_lines.specs.Lines.{verdict_line, states_line, place_line, line_for}

-- THE VERDICT and the number of states
pub verdict-short : (reached : Bool) → length (verdict_line reached) ≤ 20
unfolding verdict_line
verdict-short true = omega arith
verdict-short false = omega arith

pub states-short : (n : ℕ) → Fits w32 n → length (states_line n) ≤ 20
unfolding states_line
states-short n h = simp length-append (omega (arith, word-short n h))

-- OBJECTS are below 256
abbrev Small : List ℕ → Type 0
Small [] = Unit {0}
Small (o ∷ os) = (o < 256) × Small os

objects-short : (os : List ℕ) → Small os → length (items (map decimal (objects os))) ≤ 4 * length os
objects-short [] h = omega arith
objects-short (o ∷ os) h = ⊎_elim (λ (q : eqb o 255 ≡ true). rw q (omega arith))
    (λ (q : eqb o 255 ≡ false). rw (q, length-append (decimal o) (items (map decimal (objects os)))) (omega (arith, decimal-short 2 o (omega (arith, h.0)), objects-short os h.1))) (cases_Bool (eqb o 255))

-- PLACES
step-short : (ℓ o : ℕ) → ℓ < 8388608 → o < 256 → length (place_line (step ℓ o)) ≤ 24
unfolding place_line
step-short ℓ o h l = simp length-append (omega (arith, decimal-short 6 ℓ (omega arith), decimal-short 2 o (omega arith)))

meet-short : (i a b c : ℕ) → i < 128 → a < 256 → b < 256 → c < 256 → length (place_line (meet i (objects (a ∷ b ∷ c ∷ [])))) ≤ 24
unfolding place_line
meet-short i a b c h ha hb hc =
    simp length-append (omega (arith, decimal-short 2 i (omega arith), objects-short (a ∷ b ∷ c ∷ []) (ha, (hb, (hc, tt)))))

-- a meeting names an object after none
abbrev gaps : ℕ → Bool
gaps n = gap_at (n / 65536 % 256) (n / 256 % 256) || gap_at (n / 256 % 256) (n % 256)

pub place_short : (n : ℕ) → Fits w32 n → length (line_for (place_of n)) ≤ 24
unfolding place_of placed
place_short n h = ⊎_elim
    (λ (q : ltb n 2147483648 ≡ true). rw q
    (⊎_elim (λ (r : eqb (n % 256) 255 ≡ true). rw r (omega arith)) (λ (r : eqb (n % 256) 255 ≡ false). rw r (step-short (n / 256) (n % 256) (omega (arith, ltb-true n 2147483648 q)) (omega arith))) (cases_Bool (eqb (n % 256) 255))))
    (λ (q : ltb n 2147483648 ≡ false). rw q
    (⊎_elim (λ (r : gaps n ≡ true). rw r (omega arith))
    (λ (r : gaps n ≡ false). rw r (meet-short (n / 16777216 % 128) (n / 65536 % 256) (n / 256 % 256) (n % 256) (omega arith) (omega arith) (omega arith) (omega arith))) (cases_Bool (gaps n))))
    (cases_Bool (ltb n 2147483648))
