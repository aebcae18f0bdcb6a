-- THE SCAN for the smallest choice, from the highest number down.
use mathlib.Core.Path.{◌≡◌}
use Prim.Native.Nat.{ℕ, suc, ◌≤◌, ◌<◌}
use Rattle.std.specs.Prelude.{Option, Some, None}
use Rattle.striking.specs.Striking.{most}

-- b has the size s, the least of the numbers from i on, and the least of the higher ones by more
pub record Smallest (size : ℕ → ℕ) (total i b s : ℕ) : Type 0 where
  pub here : i ≤ b
  pub within : b < total
  pub own : s ≡ size b
  pub small : s ≤ most
  pub strict : (k : ℕ) → k < total → b < k → s < size k

-- best is that number, or none has a size up to ten
abbrev pub Which : (ℕ → ℕ) → ℕ → ℕ → Option ℕ → ℕ → Type 0
Which size total i None least = least ≡ suc most
Which size total i (Some b) least = Smallest size total i b least

-- the numbers from i on are scanned
pub record Scanned (size : ℕ → ℕ) (total i : ℕ) (best : Option ℕ) (least : ℕ) : Type 0 where
  pub bound : (k : ℕ) → i ≤ k → k < total → least ≤ size k
  pub which : Which size total i best least
