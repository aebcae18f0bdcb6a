-- What the readers of a line find in what is left of it.
use Rattle.std.specs.Prelude.{◌≡◌, Bool, true, false, if◌then◌else◌, Some, None, List, [], ◌∷◌, ℕ, ◌+◌, min, ◌<◌, length}
use Rattle.std.specs.Prelude as std
use Rattle.std.proofs.Math.Option.{Option, none, some}
use Rattle.limits.specs.Limits as limit
use Rattle.model.specs.Places.{number_of}
use Rattle.grammar.specs.Bytes.{bytes}
use Rattle.grammar.specs.Shapes.{Read, ◌>>=◌, after}
use Rattle.listing_bytes.specs.Numerals.{value_after}
use Rattle.handin_lines.specs.Lines as lines
use Rattle.handin_lines.specs.Lines.{digits, after_digits, number, below, Said, nothing, place}
use Rattle.handin_lines.specs.declared.Number.{Number}

-- a number as it is kept: from 8,388,608 on all are alike
abbrev pub cut : ℕ → ℕ
cut n = min n 8388608

-- the digits that are next: what is left behind them, and the number that they stand for
pub record DigitsEnd (line : List ℕ) (r : Number) : Type 0 where
  pub count : length (digits line) + length r.rest.now ≡ length line
  pub left : after_digits line ≡ r.rest.now
  pub value : r.value ≡ cut (value_after 0 (digits line))

-- the numeral that is next, and how its number is kept
pub record NumberAt (line : List ℕ) (r : Number) : Type 0 where
  pub number : ℕ
  pub value : r.value ≡ cut number
  pub read : lines.number line ≡ some (number, r.rest.now)

abbrev pub NumberEnd : List ℕ → std.Option Number → Type 0
NumberEnd line None = number line ≡ none
NumberEnd line (Some r) = NumberAt line r

-- the number below n that is read
pub record BelowAt (n : ℕ) (read : Read ℕ) (r : Number) : Type 0 where
  pub small : r.value < n
  pub found : read ≡ some (r.value, r.rest.now)

abbrev pub BelowEnd : ℕ → Read ℕ → std.Option Number → Type 0
BelowEnd n read None = read ≡ none
BelowEnd n read (Some r) = BelowAt n read r

-- the object that is next in a bracket
abbrev pub object : List ℕ → Read ℕ
object s = after (bytes " ") s >>= below limit.objects

-- the bytes left are none
abbrev pub last : Option (List ℕ) → Bool
last none = false
last (some []) = true
last (some (b ∷ s)) = false

-- the place with number n, if the line ends with the bracket that is next
abbrev pub met : List ℕ → ℕ → std.Option ℕ
met line n = if last (after (bytes ")") line) then Some n else None

-- whether a line says nothing
abbrev pub is_silent : Option Said → Bool
is_silent none = false
is_silent (some nothing) = true
is_silent (some (place p)) = false

-- the number of the place that a line says
abbrev pub number_said : Option Said → std.Option ℕ
number_said none = None
number_said (some nothing) = None
number_said (some (place p)) = Some (number_of p)

-- what the first line says
abbrev pub clear : Option Bool → std.Option Bool
clear none = None
clear (some reached) = Some reached
