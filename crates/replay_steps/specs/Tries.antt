-- ONE PLACE put to the replay's state.
use Rattle.std.specs.Prelude.{◌≡◌, ◌≢◌, Option, Some, None, List, [], ℕ, suc, ◌≤◌, ◌<◌, length, take, set}
use Rattle.std.proofs.Math.Option.{some}
use Rattle.limits.specs.Limits as limit
use Rattle.semantics.specs.Models.{Body, Line, rule, new, next, other, line}
use Rattle.semantics.specs.Facts.{Database, Meets}
use Rattle.semantics.specs.Runs as runs
use Rattle.semantics.specs.Runs.{step, meet, Allowed}
use Rattle.model.specs.declared.Action.{Action}
use Rattle.model.specs.declared.Action.TheVariants.{Rule, New, Next}
use Rattle.model.specs.declared.Clause.{Clause}
use Rattle.model.specs.declared.Model.{Model}
use Rattle.model.specs.Records.{clause_body, program_of, question_of, stage_body, clause_at, stage_at}
use Rattle.model.specs.Places.{place_of}
use Rattle.model.specs.WellFormed.{WellFormed}
use Rattle.facts_candidates.specs.declared.Choice.{Choice}
use Rattle.facts_candidates.specs.Choices.{element_of}
use Rattle.facts_find.specs.Bodies.{Fixed}
use Rattle.facts_rests.specs.Rests.{Within}
use Rattle.replay_session.specs.declared.Position.{Position}
use Rattle.replay_session.specs.declared.Session.{Session}
use Rattle.replay_session.specs.Sessions.{session_in}
use Rattle.replay_session.specs.Records.{session_of, Fits, taken}
use Rattle.replay_session.specs.Replays.{Allows}
use Rattle.replay_session.specs.Notes.{Stands}
use Rattle.replay_view.specs.declared.View.{View}
use Rattle.replay_view.specs.Views.{row_of, Views, Known}
use Rattle.replay_steps.specs.declared.NewState.{NewState}
use Rattle.replay_steps.specs.declared.Outcome.{Outcome}

-- the body on a line
abbrev pub line_body : Line → Body
line_body (rule r xs b) = b
line_body (new t b) = b
line_body (next x plus minus b) = b
line_body other = []

-- WHAT A PLACE RESTS ON: the derived relations of its body are in the row R
abbrev pub Rests : Model → List ℕ → runs.Place → Type 0
Rests m R (step ℓ o) = Within R (line_body (line (program_of m) ℓ))
Rests m R (meet j os) = (i : ℕ) → i < m.stagecount → j ≡ suc i → Within R (stage_body m.literals (stage_at m i))

-- the view is that of the database, and the work area knows the facts of the relations of R over its row
pub record Sees (m : Model) (R : List ℕ) (db : Database) (v : View) (w : List ℕ) : Type 0 where
  pub views : Views db v
  pub known : Known (program_of m) R (row_of v) w

-- a place can be put to the state: the model is accepted, the state fits it, fewer than 9,344 places are kept, the facts of some relations are known, and the arrays have their lengths
pub record Ready (m : Model) (s : Session) (v : View) (w : List ℕ) : Type 0 where
  pub accepted : WellFormed m
  pub fits : Fits m s
  pub room : s.kept < limit.run
  pub relations : List ℕ
  pub sees : Sees m relations (take s.objects s.states) v w
  pub long : length s.states ≡ limit.objects
  pub cells : length s.carried ≡ limit.carried

-- WHAT IS LENT to a place with number n: the slots of the view; the facts that the place rests on are known
pub record Lent (m : Model) (v : View) (s : Session) (slots w : List ℕ) (n : ℕ) : Type 0 where
  pub ready : Ready m s v w
  pub rests : (p : runs.Place) → place_of n ≡ some p → Rests m ready.relations p
  pub seats : v.slots ≡ slots

-- the same before the last meeting, of a place p
pub record Open (m : Model) (v : View) (s : Session) (slots w : List ℕ) (p : runs.Place) : Type 0 where
  pub ready : Ready m s v w
  pub rests : Rests m ready.relations p
  pub left : s.met < m.stagecount
  pub seats : v.slots ≡ slots

-- the same of a step of clause c
pub record Stepping (m : Model) (v : View) (s : Session) (slots w : List ℕ) (c : Clause) : Type 0 where
  pub ready : Ready m s v w
  pub left : s.met < m.stagecount
  pub index : ℕ
  pub within : index < m.clausecount
  pub clause : clause_at m index ≡ c
  pub rests : Within ready.relations (clause_body m.literals c)
  pub seats : v.slots ≡ slots

-- the body holds in the state's database for the choice σ, which has the fixed elements
abbrev pub Holding : Model → Session → Body → ℕ → Choice → (ℕ → ℕ) → Type 0
Holding m s b n fixed σ = Meets (program_of m) (take s.objects s.states) σ b × Fixed n fixed σ

-- a choice that fixes variable 0 alone
abbrev pub only : ℕ → Choice
only o = record { first = Some o; second = None; third = None }

-- the choice has the objects that a step of a line with object o fixes, where n are there; or there is none, since o is no object for the line
abbrev pub Fixes : Action → ℕ → ℕ → Option Choice → Type 0
Fixes (Rule r k) n o (Some c) = ⊥
Fixes (Rule r k) n o None = Unit {0}
Fixes (New t) n o (Some c) = (o ≡ n) × ((x : ℕ) → element_of c x ≡ None)
Fixes (New t) n o None = o ≢ n
Fixes (Next plus minus) n o (Some c) = (o < n) × (c ≡ only o)
Fixes (Next plus minus) n o None = n ≤ o

-- the place is allowed and taken, and k is its number
abbrev pub Taken : Model → Session → runs.Place → Session → ℕ → Type 0
Taken m s p t k = Allowed (program_of m) (question_of m) (session_of m s) p × (t ≡ taken m s p) × Stands (program_of m) (session_of m s) p k

-- the place is not allowed
abbrev pub Barred : Model → Session → runs.Place → Type 0
Barred m s p = Allowed (program_of m) (question_of m) (session_of m s) p → ⊥

-- the states after a place: the object that it gives a state, if it gives one, has it
abbrev pub restated : List ℕ → Option NewState → List ℕ
restated states None = states
restated states (Some g) = set states g.object g.state

abbrev pub afterwards : List ℕ → Outcome → Session
afterwards states r = session_in (restated states r.given) r.at

-- object o of n' is given a state, where there were n: the others were there before
pub record Given (n o n' : ℕ) : Type 0 where
  pub here : o < n'
  pub grows : n ≤ n'
  pub few : n' ≤ limit.objects
  pub rest : (p : ℕ) → p < n' → p ≢ o → p < n

-- n objects become n' where a place gives no object a state, or one
abbrev pub GivenTo : ℕ → ℕ → Option NewState → Type 0
GivenTo n n' None = n' ≡ n
GivenTo n n' (Some g) = Given n g.object n'

abbrev pub Gives : Position → Outcome → Type 0
Gives at r = GivenTo at.objects r.at.objects r.given

-- the outcome is that of a place, which is not allowed if there is none
abbrev pub TriedBy : Model → List ℕ → Position → runs.Place → Option Outcome → Type 0
TriedBy m states at p (Some r) = Taken m (session_in states at) p (afterwards states r) r.stood
TriedBy m states at p None = Barred m (session_in states at) p

-- the same of a place's number
abbrev pub TakenAt : Model → Session → ℕ → Session → ℕ → Type 0
TakenAt m s n t k = (p : runs.Place) × (place_of n ≡ some p) × Taken m s p t k

abbrev pub BarredAt : Model → Session → ℕ → Type 0
BarredAt m s n = Allows (program_of m) (question_of m) (session_of m s) n → ⊥

abbrev pub TriedAtBy : Model → List ℕ → Position → ℕ → Option Outcome → Type 0
TriedAtBy m states at n (Some r) = TakenAt m (session_in states at) n (afterwards states r) r.stood
TriedAtBy m states at n None = BarredAt m (session_in states at) n
