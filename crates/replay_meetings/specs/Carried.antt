-- THE CARRIED VARIABLES at a meeting, each by itself: "a carried object .. is the one that a meeting must name, and where it has none the next meeting with the carried variable sets it".
use Rattle.std.specs.Prelude.{Option, Some, None, ◌≡◌, ◌⊎◌, ◌≢◌, if◌then◌else◌, List, ℕ, ◌<◌, ◌==◌, length, slice_index, slice_index_or}
use Rattle.std.specs.Option.{option_or}
use Rattle.limits.specs.Limits as limit
use Rattle.model.specs.declared.Stage.{Stage}
use Rattle.model.specs.Records.{number_in}
use Rattle.facts_candidates.specs.declared.Choice.{Choice}
use Rattle.facts_candidates.specs.Choices.{element_of}

-- the object of a number, where 255 stands for none; and the choice of those of a meeting
abbrev pub object_of : ℕ → Option ℕ
object_of n = if n == limit.none then None else Some n

abbrev pub choice_of : ℕ → ℕ → ℕ → Choice
choice_of a b c = record { first = object_of a; second = object_of b; third = object_of c }

-- r is the object that the choice has for the stage's variable of number v, or none where the stage has no such variable
abbrev pub Named : Stage → ℕ → Choice → Option ℕ → Type 0
Named g v c r = ((x : ℕ) × (x < g.variables) × (number_in g x ≡ v) × (r ≡ element_of c x)) ⊎ (((x : ℕ) → x < g.variables → number_in g x ≢ v) × (r ≡ None))

-- the object may be met where the carried one is c: none is carried yet, the stage does not name it, or they are the same
abbrev pub Agrees : Option ℕ → Option ℕ → Type 0
Agrees c o = (d e : ℕ) → c ≡ Some d → o ≡ Some e → e ≡ d

-- the carried object afterwards
abbrev pub carried_on : Option ℕ → Option ℕ → Option ℕ
carried_on c o = option_or o c

-- os are the objects that the choice has for the carried variables, whose numbers are ns
abbrev pub AllNamed : List ℕ → Stage → Choice → List (Option ℕ) → Type 0
AllNamed ns g c os = (v : ℕ) → v < limit.carried → Named g (slice_index ns v) c (slice_index_or os v None)

-- each of the objects os may be met where those of cs are carried
abbrev pub AllAgree : List (Option ℕ) → List (Option ℕ) → Type 0
AllAgree cs os = (v : ℕ) → v < limit.carried → Agrees (slice_index_or cs v None) (slice_index_or os v None)

-- left are the carried objects afterwards
abbrev pub AllCarried : List (Option ℕ) → List (Option ℕ) → List (Option ℕ) → Type 0
AllCarried cs os left = (length left ≡ limit.carried) × ((v : ℕ) → v < limit.carried → slice_index_or left v None ≡ carried_on (slice_index_or cs v None) (slice_index_or os v None))
