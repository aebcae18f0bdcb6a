-- THE SMALLEST CHOICE in a table. Nothing of what an answer means rests on it.
use Rattle.std.specs.Prelude.{Bool, false, if◌then◌else◌, Option, None, MatchOption, List, ℕ, suc, ◌≤◌, ◌<◌, length, slice_index_or, unwrap_or}
use Rattle.striking.specs.Striking.{most}
use Rattle.striking.specs.Numbers.{numbered}

-- how many lines choice n strikes, which is reached or not; more than any, if it is reached
abbrev pub size_of : List ℕ → Bool → ℕ → ℕ
size_of xs reached n = if reached then suc most else length (numbered xs n)

abbrev pub size_at : List ℕ → List (Option Bool) → ℕ → ℕ
size_at xs said n = size_of xs (unwrap_or (slice_index_or said n None) false) n

-- n is the highest of the numbers below total with the least size
pub record Least (size : ℕ → ℕ) (total n : ℕ) : Type 0 where
  pub within : n < total
  pub small : size n ≤ most
  pub least : (k : ℕ) → k < total → size n ≤ size k
  pub highest : (k : ℕ) → k < total → n < k → size n < size k

-- that number, where one has a size up to ten
abbrev pub Soonest : (ℕ → ℕ) → ℕ → Option ℕ → Type 0
Soonest size total r = MatchOption r ((k : ℕ) → k < total → most < size k) (Least size total)
