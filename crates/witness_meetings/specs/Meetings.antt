-- MEETINGS of a shown run: what is known where one is written, and what the table then has.
use Rattle.std.specs.Prelude.{◌≡◌, true, if◌then◌else◌, List, [], ◌∷◌, map, ℕ, suc, ◌+◌, ◌≤◌, ◌<◌, ◌==◌, length, slice_index_or}
use Rattle.std.specs.Prelude as prelude
use Rattle.std.proofs.Math.Option.{Option, some}
use Rattle.limits.specs.Limits as limit
use Rattle.semantics.specs.Models.{elem, vars, names}
use Rattle.semantics.specs.Facts.{Meets}
use Rattle.semantics.specs.Runs.{Place, meet, nobody}
use Rattle.semantics.specs.Tables.{Shows}
use Rattle.semantics.specs.Walkers.{but, acting}
use Rattle.model.specs.declared.Model.{Model}
use Rattle.model.specs.declared.Stage.{Stage}
use Rattle.model.specs.Records.{up_from, number_in, program_of, question_of, stage_body, stage_at, carried_at}
use Rattle.model.specs.WellFormed.{WellFormed}
use Rattle.facts_bits.specs.Bits.{in_row}
use Rattle.facts_table.specs.Table.{table_of, Consistent}
use Rattle.facts_candidates.specs.declared.Choice.{Choice}
use Rattle.facts_candidates.specs.Choices.{element_of, chosen}
use Rattle.facts_holds.specs.Shows.{Seeks}
use Rattle.facts.specs.Facts.{Exact}
use Rattle.search_states.specs.declared.States.{States}
use Rattle.search_states.specs.States.{row, Proper, Discovered}
use Rattle.witness_table.specs.Runs.{AllNumerable, backwards}
use Rattle.witness_meetings.specs.declared.Cast.{Cast}

-- the found states came from one another, and the facts of the work area are those derived over them
pub record Known (m : Model) (w : List ℕ) (s : States) : Type 0 where
  pub model : WellFormed m
  pub proper : Proper s
  pub found : Discovered (program_of m) s
  pub agree : Consistent w
  pub exact : Exact m (row s) w

-- WRITTEN: some good places, at most so many, stand in the table from index k on, the last first; k' is the index behind them
pub record Written (Good : List Place → Type 0) (most : ℕ) (run : List ℕ) (k : ℕ) (run' : List ℕ) (k' : ℕ) : Type 0 where
  pub places : List Place
  pub good : Good places
  pub few : length places ≤ most
  pub numerable : AllNumerable places
  pub written : run' ≡ backwards run k places
  pub index : k' ≡ k + length places

-- a stage has few variables, and their numbers in the `ask` line are different
pub record Numbers (st : Stage) : Type 0 where
  pub long : length st.numbers ≡ limit.variables
  pub few : st.variables ≤ limit.variables
  pub different : (x y : ℕ) → x < st.variables → y < st.variables → number_in st x ≡ number_in st y → x ≡ y

-- the choice c, but element e for the variable v where the stage has it
abbrev pub Names : Stage → ℕ → ℕ → Choice → Choice → Type 0
Names st v e c r = (x : ℕ) → x < st.variables → element_of r x ≡ (if number_in st x == v then prelude.Some e else element_of c x)

-- the choice c, but elements e and f for the carried variables where stage k has them
abbrev pub NamesBoth : Model → ℕ → ℕ → ℕ → Choice → Choice → Type 0
NamesBoth m k e f c r = (d : Choice) × Names (stage_at m k) (carried_at m 0) e c d × Names (stage_at m k) (carried_at m 1) f d r

-- the meeting of stage k + 1 with the chosen objects
abbrev pub meeting : ℕ → ℕ → Choice → Place
meeting k n c = meet (suc k) (map (chosen c) (up_from 0 n))

-- THE CAST: object `base` + i has state i of the row, and two more objects stand for the carried variables. They all have numbers.
pub record Numbered (s : States) (cast : Cast) : Type 0 where
  pub states : cast.base + s.count ≤ limit.objects
  pub first : cast.first < limit.objects
  pub second : cast.second < limit.objects

-- the objects of the chosen states of n variables
abbrev pub Behind : ℕ → ℕ → Choice → Choice → Type 0
Behind n b c r = (x : ℕ) → x < n → chosen r x ≡ b + chosen c x

-- a for the first carried variable, and c for the second; the others are as `w` says
abbrev pub pair : Model → (ℕ → Option ℕ) → Option ℕ → Option ℕ → ℕ → Option ℕ
pair m w a c = but (but w (carried_at m 0) a) (carried_at m 1) c

-- σ has slot e for the first carried variable and slot f for the second, where they stand in stage k
abbrev pub Seats : Model → ℕ → (ℕ → ℕ) → ℕ → ℕ → Type 0
Seats m k σ e f = (elem (carried_at m 0) (vars (slice_index_or (question_of m) k [])) ≡ true → σ (carried_at m 0) ≡ e) × (elem (carried_at m 1) (vars (slice_index_or (question_of m) k [])) ≡ true → σ (carried_at m 1) ≡ f)

-- the meeting of stage k + 1 with the objects of the states σ, but the cast's two for the carried variables, and whom `w` names
abbrev pub gathering : Model → Cast → (ℕ → Option ℕ) → ℕ → (ℕ → ℕ) → Place
gathering m cast w k σ = meet (suc k) (map (acting (λ o. cast.base + o) (pair m w (some cast.first) (some cast.second)) σ) (names (slice_index_or (question_of m) k [])))

-- the objects are those of the states σ, and whom `w` names
abbrev pub Takes : Model → Cast → ℕ → (ℕ → Option ℕ) → (ℕ → ℕ) → Choice → Type 0
Takes m cast k w σ c = (x : ℕ) → x < (stage_at m k).variables → acting (λ o. cast.base + o) w σ (number_in (stage_at m k) x) ≡ chosen c x

-- a choice for the stage's own variables says what σ says
abbrev pub Chooses : Stage → Choice → (ℕ → ℕ) → Type 0
Chooses st c σ = (x : ℕ) → x < st.variables → σ (number_in st x) ≡ chosen c x

-- stage k + 1 holds over the states with these slots for the carried variables
abbrev pub Seating : Model → List ℕ → States → ℕ → ℕ → ℕ → (ℕ → ℕ) → Type 0
Seating m w s k e f σ = Shows (row s) (table_of w) σ (slice_index_or (question_of m) k []) × Seats m k σ e f

-- THE PLACE OF A MEETING: stage k + 1 holds over the states for some σ with these slots, and is met with their objects
abbrev pub Met : Model → States → Cast → ℕ → ℕ → ℕ → List Place → Type 0
Met m s cast k e f ps = (σ : ℕ → ℕ) × Meets (program_of m) (row s) σ (slice_index_or (question_of m) k []) × Seats m k σ e f × (ps ≡ gathering m cast nobody k σ ∷ [])

-- STAGE 1 with an object for its first variable
abbrev pub first_variable : Model → ℕ
first_variable m = number_in (stage_at m 0) 0

-- it holds with these slots for the carried variables, and for the first one a slot of row j
abbrev pub Opens : Model → List ℕ → States → List ℕ → ℕ → ℕ → ℕ → (ℕ → ℕ) → Type 0
Opens m w s rows j e f σ = Seating m w s 0 e f σ × (in_row rows j (σ (first_variable m)) ≡ true)

-- the answer is a choice for which stage 1 holds with slot u for its first variable and slots e and f for the carried ones, or that there is none. Where the first variable is carried it has its own slot, whatever u is.
abbrev pub Attempts : Model → List ℕ → States → ℕ → ℕ → ℕ → prelude.Option Choice → Type 0
Attempts m w s u e f r = (free one fixed : Choice) × ((x : ℕ) → element_of free x ≡ prelude.None) × Names (stage_at m 0) (first_variable m) u free one × NamesBoth m 0 e f one fixed
    × Seeks (row s) w (stage_body m.literals (stage_at m 0)) (stage_at m 0).variables fixed r
