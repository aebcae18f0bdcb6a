-- ONE LINE OF A HAND-IN, without its byte 10. Readers are those of the bracket text: each takes what it reads from the front of a list of bytes, and gives that and the bytes left.
use Rattle.std.specs.Prelude.{Bool, true, false, if◌then◌else◌, not, ◌||◌, List, [], ◌∷◌, ℕ, ◌==◌, nat_lt, length}
use Rattle.std.proofs.Math.Option.{Option, none, some}
use Rattle.limits.specs.Limits as limit
use Rattle.semantics.specs.Runs.{Place, step, meet}
use Rattle.grammar.specs.Bytes.{bytes, digit, Word, same}
use Rattle.grammar.specs.Shapes.{Read, ◌>>=◌, after, word, after_word, whether, rest, whole}
use Rattle.listing_bytes.specs.Numerals.{value_after}

-- THE FIRST LINE: "`yes`, `no`, `(verdict reached)` or `(verdict unreached)`"; whether it says yes
unfoldable pub verdict : List ℕ → Option Bool
verdict s =
    if same s (bytes "yes") || same s (bytes "(verdict reached)") then some true
    else (if same s (bytes "no") || same s (bytes "(verdict unreached)") then some false else none)

-- NUMERALS in base ten: the digits at the front, and what follows them
abbrev pub digits : List ℕ → List ℕ
digits [] = []
digits (b ∷ s) = if digit b then b ∷ digits s else []

abbrev pub after_digits : List ℕ → List ℕ
after_digits [] = []
after_digits (b ∷ s) = if digit b then after_digits s else b ∷ s

-- digits are a numeral if there are some, and none follows a first 0
unfoldable pub is_numeral : List ℕ → Bool
is_numeral [] = false
is_numeral (b ∷ w) = not (b == 48) || length w == 0

unfoldable pub number : List ℕ → Read ℕ
number s = if is_numeral (digits s) then some (value_after 0 (digits s), after_digits s) else none

-- a number below n
unfoldable pub below : ℕ → List ℕ → Read ℕ
below n s = do
  (k, t) ← number s
  if nat_lt k n then some (k, t) else none

-- WORDS of letters and digits
unfoldable pub letters : List ℕ → Read Word
letters s = if length (word s) == 0 then none else some (word s, after_word s)

-- WHAT A LINE SAYS after the first: nothing, or a place
pub data Said : Type 0 where
  nothing : Said
  place : Place → Said

-- `(states n)`, after its first word
unfoldable pub states_rest : List ℕ → Read Said
states_rest s = do
  (n, t) ← number s
  u ← after (bytes ")") t
  some (nothing, u)

-- `(atomic A ..)`, with any number of words: there are fewer than bytes
unfoldable pub atomic_rest : List ℕ → Read Said
atomic_rest s = do
  (ws, t) ← rest letters (length s) s
  some (nothing, t)

-- `(step line object)`: a line and an object that have room in a place's number
unfoldable pub step_rest : List ℕ → Read Said
step_rest s = do
  (ℓ, t) ← below 8388608 s
  u ← after (bytes " ") t
  (o, v) ← below limit.objects u
  z ← after (bytes ")") v
  some (place (step ℓ o), z)

-- `(meet stage object ..)`, with at most 3 objects
unfoldable pub meet_rest : List ℕ → Read Said
meet_rest s = do
  (i, t) ← below 128 s
  (os, u) ← rest (below limit.objects) limit.variables t
  some (place (meet i os), u)

-- by its first word
unfoldable pub line : List ℕ → Read Said
line s =
    whether (after (bytes "(states ") s) states_rest
    (whether (after (bytes "(atomic") s) atomic_rest
    (whether (after (bytes "(step ") s) step_rest
    (after (bytes "(meet ") s >>= meet_rest)))

-- what the line says, if it has one of these shapes
unfoldable pub said_by : List ℕ → Option Said
said_by s = whole (line s)
