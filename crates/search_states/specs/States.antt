-- THE ROW OF STATES that a search has found, in order of discovery, each with the line that it came by and the earlier state that it came from; the empty state is noted beside it.
use Rattle.std.specs.Prelude.{◌≡◌, ◌⊎◌, true, false, if◌then◌else◌, Option, Some, None, MatchOption, List, ℕ, ◌+◌, ◌≤◌, ◌<◌, ◌==◌, nat_lt, length, take, slice_index_or, set, replicate}
use Rattle.limits.specs.Limits as limit
use Rattle.semantics.specs.Models.{elem, Program, Distinct}
use Rattle.semantics.specs.Facts.{Database}
use Rattle.semantics.specs.Tables.{Founded, seat}
use Rattle.search_states.specs.declared.Arrival.{Arrival}
use Rattle.search_states.specs.declared.States.{States}

-- the states found that are not empty; they are a database, with one object of each
abbrev pub row : States → Database
row s = take s.count s.states

-- what stands where no state has come yet
abbrev pub unarrived : Arrival
unarrived = record { line = 0; origin = 0 }

-- how state i came
abbrev pub arrival : States → ℕ → Arrival
arrival s i = slice_index_or s.arrivals i unarrived

-- the line that state i came by, and the state that it came from
abbrev pub by : States → ℕ → ℕ
by s i = (arrival s i).line

abbrev pub from : States → ℕ → ℕ
from s i = (arrival s i).origin

-- the state is found: it is empty and noted, or in the row
abbrev pub Known : States → ℕ → Type 0
Known s t = ((t ≡ 0) × (s.empty ≡ true)) ⊎ (elem t (row s) ≡ true)

-- no state is found
abbrev pub nothing : States
nothing = record { states = replicate limit.atomic 0; arrivals = replicate limit.atomic unarrived; count = 0; empty = false }

-- the state t behind, which came by line ℓ from state p
abbrev pub appended : States → ℕ → ℕ → ℕ → States
appended s t ℓ p =
    record { states = set s.states s.count t; arrivals = set s.arrivals s.count (record { line = ℓ; origin = p }); count = s.count + 1; empty = s.empty }

-- the empty state noted
abbrev pub noted : States → States
noted s = record { states = s.states; arrivals = s.arrivals; count = s.count; empty = true }

-- the state is added where it is not found: the empty one is noted, any other stands behind, and there is none where there is no room
unfoldable pub added : States → ℕ → ℕ → ℕ → Option States
added s t ℓ p = if t == 0 then Some (noted s) else (if elem t (row s) then Some s else (if nat_lt s.count limit.atomic then Some (appended s t ℓ p) else None))

-- r is the first place of x in the row, if it is there
abbrev pub Sought : List ℕ → ℕ → Option ℕ → Type 0
Sought row x r = MatchOption r (elem x row ≡ false) (λ i. (elem x row ≡ true) × (i ≡ seat x row))

-- the states of the row are different, none is empty, and each is a set of at most 24 relations
pub record Proper (s : States) : Type 0 where
  pub count : s.count ≤ limit.atomic
  pub states : length s.states ≡ limit.atomic
  pub arrivals : length s.arrivals ≡ limit.atomic
  pub distinct : Distinct (row s)
  pub atomic : (t : ℕ) → elem t (row s) ≡ true → (1 ≤ t) × (t < limit.sets)

-- every state of the row came from those before it
abbrev pub Discovered : Program → States → Type 0
Discovered P s = Founded P (row s) (by s) (from s)
