-- CHOICES AS NUMBERS: of the lines in rising order the first has the highest bit. Nothing of what an answer means rests on it.
use Rattle.std.specs.Prelude.{if◌then◌else◌, List, [], ◌∷◌, ℕ, zero, suc, length}
use Rattle.semantics.specs.Labels.{has}

-- the lines that the number strikes
abbrev pub numbered : List ℕ → ℕ → List ℕ
numbered [] n = []
numbered (x ∷ xs) n = if has n (length xs) then x ∷ numbered xs n else numbered xs n

-- the numbers below k, the highest first
abbrev pub falling : ℕ → List ℕ
falling zero = []
falling (suc n) = n ∷ falling n
