-- THE LEVELS OF A QUESTION: in which states the carried objects can be with so many stages met, pair by pair.
-- S is the row of found states, and a slot is a place in it. Matrix k has the pairs of level k, with k stages met: bit e of its row f is set if the object
-- of the first carried variable can be in slot e while that of the second is in slot f. As long as a variable stood in no stage its slot is 0 and says nothing.
use Rattle.std.specs.Prelude.{◌≡◌, ◌↔◌, Bool, true, false, ◌||◌, Option, IfSome, List, [], ℕ, zero, suc, ◌+◌, ◌*◌, ◌<◌, length, slice_index_or}
use Rattle.limits.specs.Limits as limit
use Rattle.semantics.specs.Models.{elem, Program, vars}
use Rattle.semantics.specs.Facts.{Database, state}
use Rattle.semantics.specs.Tables.{Shows, seat}
use Rattle.semantics.specs.Walkers.{Comes}
use Rattle.model.specs.declared.Model.{Model}
use Rattle.model.specs.Records.{number_in, question_of, stage_at, carried_at}
use Rattle.facts_bits.specs.Bits.{bit_at, in_row}
use Rattle.facts_table.specs.Table.{table_of}
use Rattle.search_states.specs.declared.States.{States}
use Rattle.search_states.specs.States.{row}
use Rattle.search_ways.specs.Moves.{matrix_bytes}
use Rattle.search_levels.specs.declared.Levels.{Levels}

-- the bytes of the matrices of all levels
abbrev pub levels_bytes : ℕ
levels_bytes = (limit.stages + 1) * matrix_bytes

-- the carried variable of cell v stands in stage k, counted from 0
abbrev pub holder : Model → ℕ → ℕ → Bool
holder m v k = elem (carried_at m v) (vars (slice_index_or (question_of m) k []))

-- it stands in one of the first k stages
abbrev pub chosen : Model → ℕ → ℕ → Bool
chosen m v zero = false
chosen m v (suc k) = chosen m v k || holder m v k

-- the pair of slot e for the first carried variable and slot f for the second is on level k
abbrev pub pair_at : List ℕ → ℕ → ℕ → ℕ → Bool
pair_at rows k e f = in_row rows (limit.listed * k + f) e

-- they are slots, and their pair is there
abbrev pub OnLevel : List ℕ → ℕ → ℕ → ℕ → Type 0
OnLevel rows k e f = (e < limit.listed) × (f < limit.listed) × (pair_at rows k e f ≡ true)

-- an object goes from slot u to slot e before a stage is met: it stays where its variable does not stand in the stage;
-- where it does, any slot will do as long as it stood in none before, and else one to which its object can come, as `ways` says
abbrev pub Moved : List ℕ → Bool → Bool → ℕ → ℕ → Type 0
Moved ways false c u e = u ≡ e
Moved ways true false u e = u ≡ 0
Moved ways true true u e = in_row ways u e ≡ true

-- where the variable x stands in the stage, its object is the one in slot e
abbrev pub Seated : Bool → (ℕ → ℕ) → ℕ → ℕ → Type 0
Seated false σ x e = Unit {0}
Seated true σ x e = σ x ≡ e

-- the first variable of stage 1, in order of first appearance
abbrev pub first_variable : Model → ℕ
first_variable m = number_in (stage_at m 0) 0

-- WHAT STAGE 1 ASKS BESIDES of its object: nothing, or that it is in a slot of the row; later stages ask nothing besides
abbrev pub Pointed : Model → Option (List ℕ) → ℕ → (ℕ → ℕ) → Type 0
Pointed m p zero σ = IfSome p (λ among. bit_at among (σ (first_variable m)) ≡ true)
Pointed m p (suc k) σ = Unit {0}

-- the row has the slots to whose states an object of state t can come
pub record Points (P : Program) (S : Database) (t : ℕ) (among : List ℕ) : Type 0 where
  pub slots : (e : ℕ) → e < limit.listed → (bit_at among e ≡ true) ↔ ((e < length S) × Comes P S t (state S e))

-- they are those of the row of t's slot in `ways`, and none where t has no slot
pub record Aims (s : States) (ways : List ℕ) (t : ℕ) (among : List ℕ) : Type 0 where
  pub slots : (e : ℕ) → e < limit.listed → (bit_at among e ≡ true) ↔ ((seat t (row s) < s.count) × (in_row ways (seat t (row s)) e ≡ true))

-- level k + 1 has the pair e f, where level k has the pairs A: both objects are led on, each by itself, and stage k holds with them, as is asked besides
abbrev pub Next : Model → Database → List ℕ → List ℕ → Option (List ℕ) → ℕ → (ℕ → ℕ → Bool) → ℕ → ℕ → Type 0
Next m S w ways p k A e f = ((u v : ℕ) × (u < limit.listed) × (v < limit.listed) × (A u v ≡ true) × Moved ways (holder m 0 k) (chosen m 0 k) u e × Moved ways (holder m 1 k) (chosen m 1 k) v f)
    × ((σ : ℕ → ℕ) × Shows S (table_of w) σ (slice_index_or (question_of m) k []) × Seated (holder m 0 k) σ (carried_at m 0) e × Seated (holder m 1 k) σ (carried_at m 1) f × Pointed m p k σ)

-- STAGE k IS PASSED: level k has the pairs A, and level k + 1 has the pairs B
pub record Passed (m : Model) (S : Database) (w ways : List ℕ) (p : Option (List ℕ)) (k : ℕ) (A B : ℕ → ℕ → Bool) : Type 0 where
  pub pairs : (e f : ℕ) → e < limit.listed → f < limit.listed → (B e f ≡ true) ↔ Next m S w ways p k A e f

-- THE LEVELS over the states S with the facts of the work area w, where p is what stage 1 asks besides
pub record Filled (m : Model) (S : Database) (w ways : List ℕ) (p : Option (List ℕ)) (l : Levels) : Type 0 where
  pub long : length l.rows ≡ levels_bytes
  pub begins : (e f : ℕ) → e < limit.listed → f < limit.listed → (pair_at l.rows 0 e f ≡ true) ↔ ((e ≡ 0) × (f ≡ 0))
  pub stages : (k : ℕ) → k < m.stagecount → Passed m S w ways p k (pair_at l.rows k) (pair_at l.rows (suc k))
