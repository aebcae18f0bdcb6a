-- PASSING A STAGE row by row, with the variables numbered within the stage.
use Rattle.std.specs.Prelude.{◌≡◌, ◌↔◌, ◌≢◌, Bool, true, false, if◌then◌else◌, Option, None, Some, is_some, unwrap_or, IfSome, List, ℕ, zero, suc, ◌+◌, ◌≤◌, ◌<◌, nat_lt, length, take, slice_index_or}
use Rattle.limits.specs.Limits as limit
use Rattle.semantics.specs.Facts.{Database}
use Rattle.semantics.specs.Tables.{Shows, seat}
use Rattle.model.specs.declared.Stage.{Stage}
use Rattle.model.specs.Literals.{body_of}
use Rattle.facts_bits.specs.Bits.{bit_at, in_row}
use Rattle.facts_table.specs.Table.{table_of, Consistent, Rows}
use Rattle.facts_candidates.specs.declared.Choice.{Choice}
use Rattle.facts_candidates.specs.Choices.{Own}
use Rattle.facts_find.specs.Bodies.{Fixed}
use Rattle.facts_holds.specs.Shows.{Evaluable}
use Rattle.search_levels.specs.declared.Walker.{Walker}
use Rattle.search_levels.specs.declared.Meeting.{Meeting}
use Rattle.search_levels.specs.Levels.{Moved, Seated}

-- a row by value has exactly the slots of D
pub record Has (r : List ℕ) (D : ℕ → Type 0) : Type 0 where
  pub bits : (e : ℕ) → e < limit.listed → (bit_at r e ≡ true) ↔ D e

-- one of the picked rows has slot e; row 0 of the matrix is row `at` of the table
abbrev pub Picked : List ℕ → ℕ → List ℕ → ℕ → Type 0
Picked table at picked e = (u : ℕ) × (u < limit.listed) × (bit_at picked u ≡ true) × (in_row table (at + u) e ≡ true)

-- an object goes to slot e from one of the slots A, where s says whether its variable stands in the stage and c whether it stood in one before
abbrev pub Onward : List ℕ → Bool → Bool → (ℕ → Type 0) → ℕ → Type 0
Onward ways s c A e = (u : ℕ) × (u < limit.listed) × A u × Moved ways s c u e

-- a carried variable stands in the stage, and its number there
abbrev pub stands : Walker → Bool
stands a = is_some a.seat

abbrev pub place : Walker → ℕ
place a = unwrap_or a.seat 0

-- both go to the pair e f from one of the pairs A
abbrev pub Led : List ℕ → Meeting → (ℕ → ℕ → Bool) → ℕ → ℕ → Type 0
Led ways t A e f = Onward ways (stands t.first) t.first.chosen (λ u. Onward ways (stands t.second) t.second.chosen (λ v. A u v ≡ true) f) e

-- what stage k asks besides
abbrev pub besides : Option (List ℕ) → ℕ → Option (List ℕ)
besides p zero = p
besides p (suc k) = None

-- the object of variable 0 is as asked
abbrev pub Aimed : Option (List ℕ) → (ℕ → ℕ) → Type 0
Aimed p σ = IfSome p (λ among. bit_at among (σ 0) ≡ true)

-- the body holds with the fixed slots, for objects of which D
abbrev pub Holding : Database → List ℕ → List ℕ → ℕ → Choice → ((ℕ → ℕ) → Type 0) → Type 0
Holding S w body v c D = (σ : ℕ → ℕ) × Shows S (table_of w) σ (body_of body (length body)) × Fixed v c σ × D σ

-- the stage holds with the pair e f
abbrev pub Met : Database → List ℕ → List ℕ → Meeting → ℕ → ℕ → Type 0
Met S w body t e f =
    (σ : ℕ → ℕ) × Shows S (table_of w) σ (body_of body (length body)) × Seated (stands t.first) σ (place t.first) e × Seated (stands t.second) σ (place t.second) f × Aimed t.pointing σ

-- the same stage with only the first variable in its place
abbrev pub alone : Meeting → Meeting
alone t = record { variables = t.variables; first = t.first; second = record { seat = None; chosen = false }; pointing = t.pointing }

-- the first object can go to slot e, whatever the second does, and the stage holds with it
abbrev pub Hopeful : Database → List ℕ → List ℕ → List ℕ → Meeting → (ℕ → ℕ → Bool) → ℕ → Type 0
Hopeful S w body ways t A e = Onward ways (stands t.first) t.first.chosen (λ u. (v : ℕ) × (v < limit.listed) × (A u v ≡ true)) e × Met S w body (alone t) e 0

-- what is said of the n states whose facts the work area has
abbrev pub Over : List ℕ → ℕ → (Database → Type 0) → Type 0
Over w n C = (S : Database) → Rows S w → length S ≡ n → C S

-- the body can be asked
pub record Asked (w slots codes : List ℕ) (v : ℕ) : Type 0 where
  pub agree : Consistent w
  pub own : Own (length slots) slots
  pub few : length slots ≤ limit.listed
  pub body : Evaluable codes v

-- the stage can be asked: the two variables are different ones of it where they stand there, and it has one where more is asked of its first
pub record Ready (w slots codes : List ℕ) (t : Meeting) : Type 0 where
  pub asked : Asked w slots codes t.variables
  pub some : IfSome t.pointing (λ among. 0 < t.variables)
  pub first : stands t.first ≡ true → place t.first < t.variables
  pub second : stands t.second ≡ true → place t.second < t.variables
  pub apart : stands t.first ≡ true → stands t.second ≡ true → place t.first ≢ place t.second

-- the variable of number x as a stage has it
abbrev pub walker_of : Stage → ℕ → Bool → Walker
walker_of g x c = let y = seat x (take g.variables g.numbers) in record { seat = if nat_lt y g.variables then Some y else None; chosen = c }

abbrev pub meeting_of : Stage → List ℕ → Bool → Bool → Option (List ℕ) → Meeting
meeting_of g carried c d p = record {
  variables = g.variables;
  first = walker_of g (slice_index_or carried 0 limit.none) c;
  second = walker_of g (slice_index_or carried 1 limit.none) d;
  pointing = p;
}

-- the rows from `from` on have no bit
abbrev pub Clear : ℕ → List ℕ → Type 0
Clear from rows = (i e : ℕ) → from ≤ i → e < limit.listed → in_row rows i e ≡ false

-- only the rows from `from` up to `to` were written, and those behind have no bit
pub record Written (from to : ℕ) (old new : List ℕ) : Type 0 where
  pub long : length new ≡ length old
  pub kept : (i e : ℕ) → i < from → e < limit.listed → in_row new i e ≡ in_row old i e
  pub clear : Clear to new
