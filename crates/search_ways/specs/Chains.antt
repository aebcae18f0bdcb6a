-- CHAINS of marked pairs in a matrix of n slots.
use Rattle.std.specs.Prelude.{◌≡◌, true, List, [], ◌∷◌, ℕ, ◌<◌}
use Rattle.facts_bits.specs.Width as width
use Rattle.facts_bits.specs.Bits.{in_row}

-- only slots below n are marked
abbrev pub Inside : ℕ → List ℕ → Type 0
Inside n w = (e t : ℕ) → t < width.slots → in_row w e t ≡ true → (e < n) × (t < n)

-- the pairs from e by way of us to t are all marked
abbrev pub Links : List ℕ → ℕ → ℕ → List ℕ → ℕ → Type 0
Links w n e [] t = in_row w e t ≡ true
Links w n e (u ∷ us) t = (u < n) × (in_row w e u ≡ true) × Links w n u us t

-- some chain leads from e to t
abbrev pub Linked : List ℕ → ℕ → ℕ → ℕ → Type 0
Linked w n e t = (us : List ℕ) × Links w n e us t

-- slot e has k, and k has t
abbrev pub Through : List ℕ → ℕ → ℕ → ℕ → Type 0
Through w k e t = (in_row w e k ≡ true) × (in_row w k t ≡ true)
