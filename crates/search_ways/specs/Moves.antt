-- THE TABLE OF MOVES: from which of the found states each clause can be taken.
-- S is the row of found states, and a slot is a place in it. Tables are rows with a bit for each slot.
use Rattle.std.specs.Prelude.{◌≡◌, ◌⊎◌, ◌↔◌, true, List, ℕ, ◌*◌, ◌<◌}
use Rattle.limits.specs.Limits as limit
use Rattle.semantics.specs.Models.{Body, Line, rule, new, next, other}
use Rattle.semantics.specs.Facts.{Database, Holds, In, Derived}
use Rattle.model.specs.declared.Action.{Action}
use Rattle.model.specs.declared.Action.TheVariants.{Rule, New, Next}
use Rattle.model.specs.declared.Model.{Model}
use Rattle.model.specs.Records.{clause_line, program_of, clause_at}
use Rattle.facts_bits.specs.Width as width
use Rattle.facts_bits.specs.Bits.{in_row}
use Rattle.facts_table.specs.Table.{table_of, Consistent, Rows}
use Rattle.facts_heads.specs.Heads.{guard}
use Rattle.facts_plans.specs.Plans.{Allowed}
use Rattle.search_states.specs.declared.States.{States}
use Rattle.search_states.specs.States.{row, Proper}

-- the bytes of a table of moves, with a row for each clause, and of a matrix, with a row for each slot of a search
abbrev pub table_bytes : ℕ
table_bytes = limit.clauses * width.bytes

abbrev pub matrix_bytes : ℕ
matrix_bytes = limit.listed * width.bytes

-- THE MARKED PAIRS: bit e of row i is set exactly if R i e
pub record Marks (w : List ℕ) (R : ℕ → ℕ → Type 0) : Type 0 where
  pub bits : (i e : ℕ) → e < width.slots → (in_row w i e ≡ true) ↔ R i e

-- no pair
abbrev pub None : ℕ → ℕ → Type 0
None i e = ⊥

-- the pairs that w has, and those of D
abbrev pub With : List ℕ → (ℕ → ℕ → Type 0) → ℕ → ℕ → Type 0
With w D i e = (in_row w i e ≡ true) ⊎ D i e

-- the body holds over the states S with the facts F, with slot e for variable x
abbrev pub HoldsAt : Database → (ℕ → List ℕ → Type 0) → ℕ → ℕ → Body → Type 0
HoldsAt S F x e b = (σ : ℕ → ℕ) × (σ x ≡ e) × Holds S F σ b

-- the line is a `next` line that can be taken from slot e
abbrev pub Starts : Database → (ℕ → List ℕ → Type 0) → ℕ → Line → Type 0
Starts S F e (rule r xs b) = ⊥
Starts S F e (new t b) = ⊥
Starts S F e (next x plus minus b) = HoldsAt S F x e b
Starts S F e other = ⊥

-- row i has such slots among the first n
abbrev pub InRow : ℕ → ℕ → (ℕ → Type 0) → ℕ → ℕ → Type 0
InRow i n D k e = (k ≡ i) × (e < n) × D e

-- a `next` clause i has a mark for slot e in the work area
abbrev pub Noted : Action → List ℕ → ℕ → ℕ → Type 0
Noted (Rule r n) w i e = ⊥
Noted (New t) w i e = ⊥
Noted (Next plus minus) w i e = in_row w (guard i) e ≡ true

-- the found states are in order, and the work area shows them with exactly the facts that are derived over them and the marks of the guards that hold
pub record Exactly (m : Model) (w : List ℕ) (s : States) : Type 0 where
  pub proper : Proper s
  pub agree : Consistent w
  pub shown : Rows (row s) w
  pub facts : (r : ℕ) (os : List ℕ) → In (table_of w) r os ↔ Derived (program_of m) (row s) r os
  pub marks : (i e : ℕ) → i < limit.clauses → e < width.slots → in_row w (guard i) e ≡ true ↔ Allowed m (row s) i e

-- THE TABLE OF MOVES: clause i can be taken from slot e
abbrev pub CanTake : Model → States → ℕ → ℕ → Type 0
CanTake m s i e = (i < m.clausecount) × (e < s.count) × Starts (row s) (Derived (program_of m) (row s)) e (clause_line m.literals (clause_at m i))
