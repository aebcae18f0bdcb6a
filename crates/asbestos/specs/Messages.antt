-- ASBESTOS LABELS OVER MESSAGES (section 5.2 of the paper): processes, and what they send. There is no model, no text and no set of states here.
use Rattle.std.specs.Prelude.{◌≡◌, Bool, true, false, if◌then◌else◌, ◌||◌, List, [], ◌∷◌, ◌++◌, ℕ, ◌≤◌, ◌<◌, max, ◌==◌, length, set, slice_index, slice_index_or}

-- LEVELS: "star, 0, 1, 2, 3 in rising order, given as the numbers 0 to 4"
abbrev pub levels : ℕ
levels = 5

-- A PROCESS: its send level, its receive level, and whether it has the mark. A KIND is a process as it is created.
pub record Process : Type 0 where
  pub send : ℕ
  pub receive : ℕ
  pub mark : Bool

-- "up to 18 process kinds"
abbrev pub most : ℕ
most = 18

-- its levels are among the five; so are those of all processes of a list
abbrev pub Proper : Process → Type 0
Proper p = (p.send < levels) × (p.receive < levels)

abbrev pub AllProper : List Process → Type 0
AllProper [] = Unit {0}
AllProper (p ∷ ps) = Proper p × AllProper ps

-- stands where there is no process
abbrev pub nobody : Process
nobody = record { send = 0; receive = 0; mark = false }

-- the process of a number
abbrev pub process : List Process → ℕ → Process
process ps i = slice_index_or ps i nobody

-- THE RULE: "A receiver whose send level is star keeps it; any other takes the larger of the two send levels"; a is the receiver's and b the sender's
abbrev pub raised : ℕ → ℕ → ℕ
raised a b = if a == 0 then 0 else max a b

-- THE TABLE: "The resulting send level comes from a table with a row per receiver and a column per sender"
abbrev pub table : List (List ℕ)
table =
    (0 ∷ 0 ∷ 0 ∷ 0 ∷ 0 ∷ [])
    ∷ (1 ∷ 1 ∷ 2 ∷ 3 ∷ 4 ∷ [])
    ∷ (2 ∷ 2 ∷ 2 ∷ 3 ∷ 4 ∷ [])
    ∷ (3 ∷ 3 ∷ 3 ∷ 3 ∷ 4 ∷ [])
    ∷ (4 ∷ 4 ∷ 4 ∷ 4 ∷ 4 ∷ [])
    ∷ []

unfoldable pub resulting_level : ℕ → ℕ → ℕ
resulting_level a b = slice_index (slice_index_or table a []) b

-- A MESSAGE from p to q, through a port of that level: "passes if the sender's send level is at most the receiver's receive level and the port level"
abbrev pub Passes : ℕ → Process → Process → Type 0
Passes port p q = (p.send ≤ q.receive) × (p.send ≤ port)

-- what q is after a message of p: "All messages of a marked process are marked, and so is each receiver of one. Unmarked messages raise levels too."
abbrev pub received : Process → Process → Process
received p q = record { send = resulting_level q.send p.send; receive = q.receive; mark = p.mark || q.mark }

-- AN EVENT: a process of kind k is created, or process i sends a message to process j, which may be the same
pub data Event : Type 0 where
  create : ℕ → Event
  message : ℕ → ℕ → Event

-- The processes of a system are numbered from 0 in order of creation.
module _ (kinds : List Process) (port : ℕ) where
  -- "Processes of each kind are created at any time and in any number"
  abbrev pub Possible : List Process → Event → Type 0
  Possible ps (create k) = k < length kinds
  Possible ps (message i j) = (i < length ps) × (j < length ps) × Passes port (process ps i) (process ps j)

  abbrev pub happened : List Process → Event → List Process
  happened ps (create k) = ps ++ (process kinds k ∷ [])
  happened ps (message i j) = set ps j (received (process ps i) (process ps j))

  -- the events are possible one after the other, and lead from ps to qs
  abbrev pub History : List Process → List Event → List Process → Type 0
  History ps [] qs = ps ≡ qs
  History ps (e ∷ es) qs = Possible ps e × History (happened ps e) es qs

  -- THE QUESTION: "whether a process of a given receive level ever has the mark, from its creation or by a message"
  abbrev pub Marked : ℕ → Type 0
  Marked level = (es : List Event) × (ps : List Process) × History [] es ps × ((i : ℕ) × (i < length ps) × ((process ps i).receive ≡ level) × ((process ps i).mark ≡ true))
