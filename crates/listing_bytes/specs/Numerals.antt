-- NUMERALS IN BASE TEN, as bytes.
use Rattle.std.specs.Prelude.{◌≡◌, true, false, List, [], ◌∷◌, ◌++◌, ℕ, zero, suc, ◌+◌, ◌-◌, ◌*◌, ◌/◌, ◌%◌, ◌≤◌, ◌<◌, nat_lt, length, slice_index}

-- the byte of a digit
abbrev pub digit : ℕ → ℕ
digit d = 48 + d

-- the last k digits of n, or all of them where n has fewer
abbrev pub last_digits : ℕ → ℕ → List ℕ
last_digits zero n = []
last_digits (suc k) n = elim (nat_lt n 10) [ true ↦ digit n ∷ [] | false ↦ last_digits k (n / 10) ++ digit (n % 10) ∷ [] ]

-- the NUMERAL of n: n has at most n + 1 digits
unfoldable pub decimal : ℕ → List ℕ
decimal n = last_digits (suc n) n

-- the number that digits stand for, where those before them stand for m
abbrev pub value_after : ℕ → List ℕ → ℕ
value_after m [] = m
value_after m (b ∷ s) = value_after (m * 10 + (b - 48)) s

-- what a numeral of n is: digits, with no leading zero, that read back give n
pub record Numeral (n : ℕ) (s : List ℕ) : Type 0 where
  pub some : 1 ≤ length s
  pub digits : (k : ℕ) → k < length s → (48 ≤ slice_index s k) × (slice_index s k ≤ 57)
  pub leading : slice_index s 0 ≡ 48 → length s ≡ 1
  pub value : value_after 0 s ≡ n
