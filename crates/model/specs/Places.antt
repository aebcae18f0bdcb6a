-- PLACES OF A RUN as numbers.
use Rattle.std.specs.Prelude.{◌≡◌, Bool, false, if◌then◌else◌, not, ◌&&◌, ◌||◌, List, [], ◌∷◌, ℕ, ◌+◌, ◌*◌, ◌/◌, ◌%◌, ◌≤◌, ◌<◌, ◌==◌, nat_lt, length, slice_index_or}
use Rattle.std.proofs.Math.Option.{Option, none, some}
use Rattle.limits.specs.Limits as limit
use Rattle.semantics.specs.Runs as runs
use Rattle.semantics.specs.Runs.{step, meet}
use Rattle.model.specs.declared.Place.{Place}
use Rattle.model.specs.declared.Place.TheVariants.{Step, Meeting, Malformed}

-- "A step is line × 256 + object." "A meeting is 2,147,483,648 + stage × 16,777,216 + o1 × 65,536 + o2 × 256 + o3, .. 255 where there is none."
abbrev pub number_of : runs.Place → ℕ
number_of (step ℓ o) = ℓ * 256 + o
number_of (meet i os) = 2147483648 + i * 16777216 + slice_index_or os 0 limit.none * 65536 + slice_index_or os 1 limit.none * 256 + slice_index_or os 2 limit.none

-- an object is named after none
abbrev pub gap_at : ℕ → ℕ → Bool
gap_at a b = a == limit.none && not (b == limit.none)

-- the place of a number, in its parts
unfoldable pub placed : ℕ → Place
placed n =
    if nat_lt n 2147483648
    then (if n % 256 == limit.none then Malformed else Step (n / 256) (n % 256))
    else (if gap_at (n / 65536 % 256) (n / 256 % 256) || gap_at (n / 256 % 256) (n % 256)
    then Malformed
    else Meeting (n / 16777216 % 128) (n / 65536 % 256) (n / 256 % 256) (n % 256))

-- the number of a place that is given in its parts
abbrev pub numeral : Place → ℕ
numeral (Step ℓ o) = ℓ % 8388608 * 256 + o % 256
numeral (Meeting i a b c) = 2147483648 + i % 128 * 16777216 + a % 256 * 65536 + b % 256 * 256 + c % 256
numeral Malformed = limit.none

-- the objects before the first 255
abbrev pub objects : List ℕ → List ℕ
objects [] = []
objects (o ∷ os) = if o == limit.none then [] else o ∷ objects os

-- the place of the semantics that the parts stand for
abbrev pub stands_for : Place → Option runs.Place
stands_for (Step ℓ o) = some (step ℓ o)
stands_for (Meeting i a b c) = some (meet i (objects (a ∷ b ∷ c ∷ [])))
stands_for Malformed = none

-- the place of a number, or none
unfoldable pub place_of : ℕ → Option runs.Place
place_of n = stands_for (placed n)

-- a place with a number: "254 the highest" object, and a line and a stage that leave the other parts their room
abbrev pub Objects : List ℕ → Type 0
Objects [] = Unit {0}
Objects (o ∷ os) = (o < limit.objects) × Objects os

abbrev pub Numerable : runs.Place → Type 0
Numerable (step ℓ o) = (ℓ < 8388608) × (o < limit.objects)
Numerable (meet i os) = (i < 128) × (length os ≤ limit.variables) × Objects os

-- the same of a place that is given in its parts: the named objects come first
abbrev pub Proper : Place → Type 0
Proper (Step ℓ o) = (ℓ < 8388608) × (o < limit.objects)
Proper (Meeting i a b c) = (i < 128) × (a < 256) × (b < 256) × (c < 256) × (gap_at a b ≡ false) × (gap_at b c ≡ false)
Proper Malformed = Unit {0}
