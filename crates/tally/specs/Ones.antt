-- COUNTING A TABLE. Nothing of what an answer means rests on it.
use Rattle.std.specs.Prelude.{Option, Bool, false, List, ℕ, take, count_by, unwrap_or}

-- how many of the first n choices of a table are said to be reached
abbrev pub ones : List (Option Bool) → ℕ → ℕ
ones said n = count_by (λ v. unwrap_or v false) (take n said)
