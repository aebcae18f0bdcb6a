-- WHAT THE SEARCH FINDS of a model: exactly the reachable states, and the verdict, both about runs of every length; and what a run can be built from. Or that there are too many states.
use Rattle.std.specs.Prelude.{◌≡◌, ◌↔◌, true, Option, Some, None, MatchOption, List, [], ℕ, ◌<◌, length}
use Rattle.limits.specs.Limits as limit
use Rattle.semantics.specs.Facts.{state}
use Rattle.semantics.specs.Steps.{Reachable, MoreThan}
use Rattle.semantics.specs.Questions.{Verdict}
use Rattle.semantics.specs.Runs.{Place, Session, start}
use Rattle.semantics.specs.Building.{Leads}
use Rattle.semantics.specs.Walkers.{Whole, Comes, ReachedFrom}
use Rattle.model.specs.declared.Model.{Model}
use Rattle.model.specs.Records.{program_of, question_of}
use Rattle.facts_bits.specs.Width as width
use Rattle.facts_bits.specs.Bits.{in_row}
use Rattle.facts_table.specs.Table.{Consistent}
use Rattle.facts_heads.specs.Heads.{guard}
use Rattle.facts_plans.specs.Plans.{Allowed}
use Rattle.facts.specs.Facts.{Exact}
use Rattle.search_states.specs.declared.States.{States}
use Rattle.search_states.specs.States.{row, Known, Proper, Discovered}
use Rattle.search_states.specs.Rising.{Lists}
use Rattle.search_ways.specs.declared.Moves.{Moves}
use Rattle.search_ways.specs.Moves.{table_bytes, matrix_bytes, Marks, CanTake}
use Rattle.search_ways.specs.Steps.{Between, OneStep}
use Rattle.search_levels.specs.Levels.{pair_at, first_variable, Aims, Filled}
use Rattle.search.specs.declared.Explored.{Explored}
use Rattle.search.specs.declared.Found.{Found}

-- the moves over the found states: from which slots a clause can be taken, to which slots one step at most leads, and to which states an object can come
pub record Moving (m : Model) (s : States) (t : Moves) : Type 0 where
  pub tabled : length t.table ≡ table_bytes
  pub stepped : length t.steps ≡ matrix_bytes
  pub closed : length t.ways ≡ matrix_bytes
  pub table : Marks t.table (CanTake m s)
  pub steps : Marks t.steps (Between s.count (OneStep (program_of m) (row s)))
  pub ways : Marks t.ways (Between s.count (λ e u. Comes (program_of m) (row s) (state (row s) e) (state (row s) u)))

-- w is the work area as the exploring leaves it
pub record Surveyed (m : Model) (w : List ℕ) (r : Explored) : Type 0 where
  -- not too many states are reachable
  pub few : MoreThan limit.atomic (program_of m) → ⊥
  -- the states found are exactly the reachable ones, the empty one if it is noted; and so are those by rising number
  pub proper : Proper r.states
  pub reachable : (t : ℕ) → Reachable (program_of m) t ↔ Known r.states t
  pub listing : Lists r.states r.listing
  -- each state came from those before it, and no line adds another
  pub found : Discovered (program_of m) r.states
  pub whole : Whole (program_of m) (row r.states)
  -- the facts of the work area are those derived over the states, and its marks are those of the guards that hold over them
  pub agree : Consistent w
  pub exact : Exact m (row r.states) w
  pub marks : (i e : ℕ) → i < limit.clauses → e < width.slots → in_row w (guard i) e ≡ true ↔ Allowed m (row r.states) i e
  -- the moves over the states
  pub moves : Moving m r.states r.moves

-- WHAT IS EXPLORED: nothing exactly if more than 127 non-empty states are reachable, and else the states and their moves
abbrev pub Explores : Model → List ℕ → Option Explored → Type 0
Explores m w r = MatchOption r (MoreThan limit.atomic (program_of m)) (Surveyed m w)

-- level k has a pair
abbrev pub Entered : List ℕ → ℕ → Type 0
Entered rows k = (e f : ℕ) × (e < limit.listed) × (f < limit.listed) × (pair_at rows k e f ≡ true)

-- the levels over the explored states, where p is what stage 1 asks besides, and whether the last one has a pair
pub record Judged (m : Model) (w : List ℕ) (e : Explored) (p : Option (List ℕ)) (r : Found) : Type 0 where
  pub explored : r.explored ≡ e
  pub levels : Filled m (row e.states) w e.moves.ways p r.levels
  pub entered : (r.reached ≡ true) ↔ Entered r.levels.rows m.stagecount

-- w is the work area as the search leaves it
pub record Searched (m : Model) (w : List ℕ) (r : Found) : Type 0 where
  pub explored : Surveyed m w r.explored
  -- the verdict is right, and where it is reached the last level has a pair
  pub verdict : Verdict (program_of m) (question_of m) r.reached
  pub entered : r.reached ≡ true → Entered r.levels.rows m.stagecount
  -- the levels of the question
  pub levels : Filled m (row r.explored.states) w r.explored.moves.ways None r.levels

-- WHAT IS FOUND: nothing exactly if more than 127 non-empty states are reachable, and else all that is searched for
abbrev pub Finds : Model → List ℕ → Option Found → Type 0
Finds m w r = MatchOption r (MoreThan limit.atomic (program_of m)) (Searched m w)

-- FROM A DATABASE, with an object of state s for the first variable of stage 1
pub record SearchedFrom (m : Model) (s : ℕ) (w : List ℕ) (r : Found) : Type 0 where
  pub explored : Surveyed m w r.explored
  -- the verdict is right for each such object, wherever places that were kept so far have led, and where it is reached the last level has a pair
  pub verdict : (ps : List Place) (t : Session) → Leads (program_of m) (question_of m) (start []) ps t → (o : ℕ) → o < length t.db → state t.db o ≡ s
      → (r.reached ≡ true) ↔ ReachedFrom (program_of m) (question_of m) t.db (first_variable m) o
  pub entered : r.reached ≡ true → Entered r.levels.rows m.stagecount
  -- the levels of the question, where stage 1 asks besides for a slot to whose state such an object can come
  pub asked : List ℕ
  pub aims : Aims r.explored.states r.explored.moves.ways s asked
  pub levels : Filled m (row r.explored.states) w r.explored.moves.ways (Some asked) r.levels

abbrev pub FindsFrom : Model → ℕ → List ℕ → Option Found → Type 0
FindsFrom m s w r = MatchOption r (MoreThan limit.atomic (program_of m)) (SearchedFrom m s w)
