-- A SHORTEST WAY TO THE EMPTY STATE, which has no slot: its last step is a line that empties an object of some slot's state.
-- S is the row of found states, and a slot is a place in it.
use Rattle.std.specs.Prelude.{◌≡◌, List, ℕ, Option, MatchOption, ◌≤◌, ◌<◌, length, take, drop}
use Rattle.semantics.specs.Models.{Program, line}
use Rattle.semantics.specs.Facts.{Database, state}
use Rattle.semantics.specs.Walkers.{Whole, Takes, Way, Comes}
use Rattle.model.specs.declared.Model.{Model}
use Rattle.model.specs.Records.{program_of}
use Rattle.model.specs.WellFormed.{WellFormed}
use Rattle.search_states.specs.declared.States.{States}
use Rattle.search_states.specs.States.{row, Proper}
use Rattle.search_ways.specs.Moves.{Marks, CanTake}
use Rattle.search_ways.specs.Steps.{Between, OneStep}
use Rattle.search_ways.specs.Shortest.{Shortest}

-- THE FOUND STATES MAPPED: no line adds a state, and the tables have the moves, the single steps and the ways between them
pub record Mapped (m : Model) (s : States) (table steps ways : List ℕ) : Type 0 where
  pub model : WellFormed m
  pub proper : Proper s
  pub whole : Whole (program_of m) (row s)
  pub moves : Marks table (CanTake m s)
  pub single : Marks steps (Between s.count (OneStep (program_of m) (row s)))
  pub comes : Marks ways (Between s.count (λ e t. Comes (program_of m) (row s) (state (row s) e) (state (row s) t)))

-- line ℓ empties an object of the state of slot u
abbrev pub Empties : Program → Database → ℕ → ℕ → Type 0
Empties P S u ℓ = Takes P S (state S u) 0 (line P ℓ)

-- a line that does, or that none does
abbrev pub Emptier : Program → Database → ℕ → Option ℕ → Type 0
Emptier P S u ℓ = MatchOption ℓ ((k : ℕ) → Empties P S u k → ⊥) (Empties P S u)

-- from slot u a line empties the object, and k is the fewest steps to it from slot e
pub record Approached (P : Program) (S : Database) (e u k : ℕ) : Type 0 where
  pub few : k < length S
  pub empties : (ℓ : ℕ) × Empties P S u ℓ
  pub way : (ls : List ℕ) × Way P S (state S e) ls (state S u) × (length ls ≤ k)
  pub least : (ls : List ℕ) → Way P S (state S e) ls (state S u) → k ≤ length ls

-- so many steps, or that there is no such way
abbrev pub Approach : Program → Database → ℕ → ℕ → Option ℕ → Type 0
Approach P S e u k = MatchOption k ((ls : List ℕ) (ℓ : ℕ) → Way P S (state S e) ls (state S u) → Empties P S u ℓ → ⊥) (Approached P S e u)

-- from slot u a line empties the object, and no other such slot is nearer to slot e
pub record NearestTo (P : Program) (S : Database) (e u : ℕ) : Type 0 where
  pub here : u < length S
  pub empties : (ℓ : ℕ) × Empties P S u ℓ
  pub comes : Comes P S (state S e) (state S u)
  pub least : (v : ℕ) (ls : List ℕ) (ℓ : ℕ) → v < length S → Way P S (state S e) ls (state S v) → Empties P S v ℓ → (ms : List ℕ) × Way P S (state S e) ms (state S u) × (length ms ≤ length ls)

-- such a slot, or that there is none
abbrev pub Nearest : Program → Database → ℕ → Option ℕ → Type 0
Nearest P S e u = MatchOption u ((v : ℕ) (ls : List ℕ) (ℓ : ℕ) → v < length S → Way P S (state S e) ls (state S v) → Empties P S v ℓ → ⊥) (NearestTo P S e)

-- A SHORTEST WAY from state s to state t: the first k numbers of the list are its lines, and the rest is as it was
pub record Fewest (P : Program) (S : Database) (s t : ℕ) (out out' : List ℕ) (k : ℕ) : Type 0 where
  pub few : k ≤ length S
  pub way : Way P S s (take k out') t
  pub least : (ls : List ℕ) → Way P S s ls t → k ≤ length ls
  pub rest : drop k out' ≡ drop k out

-- no way, and the list as it was
abbrev pub NoWay : Program → Database → ℕ → ℕ → List ℕ → List ℕ → Type 0
NoWay P S s t out out' = (Comes P S s t → ⊥) × (out' ≡ out)

-- THE WAY to the empty state of so many steps, or that there is none
abbrev pub ToEmpty : Program → Database → ℕ → List ℕ → List ℕ → Option ℕ → Type 0
ToEmpty P S s out out' k = MatchOption k (NoWay P S s 0 out out') (Fewest P S s 0 out out')

-- THE SHORTEST WAY between two slots of so many steps, or that there is none
abbrev pub WayBetween : Program → Database → ℕ → ℕ → List ℕ → List ℕ → Option ℕ → Type 0
WayBetween P S e t out out' k = MatchOption k (NoWay P S (state S e) (state S t) out out') (Shortest P S e t out out')
