-- THE MAKING OF STATES: the places by which a state that was found is made, and those that make one object of each.
use Rattle.std.specs.Prelude.{◌≡◌, ◌↔◌, Bool, true, false, List, ℕ, suc, ◌+◌, ◌≤◌, ◌<◌, length, slice_index_or}
use Rattle.limits.specs.Limits as limit
use Rattle.semantics.specs.Models.{Line, rule, new, next, other, line}
use Rattle.semantics.specs.Runs.{Place}
use Rattle.semantics.specs.Building.{places, lineage, with}
use Rattle.semantics.specs.Walkers.{raise}
use Rattle.model.specs.declared.Model.{Model}
use Rattle.model.specs.Records.{program_of}
use Rattle.model.specs.WellFormed.{WellFormed}
use Rattle.search_states.specs.declared.States.{States}
use Rattle.search_states.specs.States.{by, from, Proper, Discovered}

-- it is a `new` line
abbrev pub is_new : Line → Bool
is_new (rule r xs b) = false
is_new (new s b) = true
is_new (next x plus minus b) = false
is_new other = false

-- the lines that make an object of state i
abbrev pub lines_to : Model → States → ℕ → List ℕ
lines_to m s i = lineage (program_of m) (by s) (from s) (suc i) i

-- the places by which object o is made with state i
abbrev pub making : Model → States → ℕ → ℕ → List Place
making m s o i = places (with o (lines_to m s i))

-- the places that make one object of each of the first n states, in order, behind b objects that are there
abbrev pub building : Model → States → ℕ → ℕ → List Place
building m s b n = places (raise (program_of m) (by s) (from s) b n)

-- the states that a `new` line made are noted, and no other
pub record Born (m : Model) (s : States) (born : List Bool) : Type 0 where
  pub long : length born ≡ limit.atomic
  pub made : (i : ℕ) → i < s.count → (slice_index_or born i false ≡ true) ↔ (is_new (line (program_of m) (by s i)) ≡ true)

-- how the found states came, and which of them a `new` line made
pub record Ancestry (m : Model) (s : States) (bs : List Bool) : Type 0 where
  pub model : WellFormed m
  pub proper : Proper s
  pub found : Discovered (program_of m) s
  pub born : Born m s bs

-- the state is found, and the table has room for its making from index k on
abbrev pub Makes : Model → States → ℕ → ℕ → List ℕ → Type 0
Makes m s i k run = (i < s.count) × (k + length (lines_to m s i) ≤ length run)
