-- WHY A PLACE IS NOT ALLOWED.
use Rattle.std.specs.Prelude.{Option, Some, None, ◌≡◌, ◌≢◌, true, List, ℕ, suc, ◌≤◌, ◌<◌, length, slice_index, slice_index_or}
use Rattle.std.proofs.Math.Option.{some}
use Rattle.limits.specs.Limits as limit
use Rattle.semantics.specs.Models.{elem, Line, rule, new, next, other, Program, line, Question, vars, names}
use Rattle.semantics.specs.Facts.{Database}
use Rattle.semantics.specs.Runs.{Place, step, meet, named, Session, stage, Allowed}
use Rattle.model.specs.declared.Model.{Model}
use Rattle.model.specs.declared.Stage.{Stage}
use Rattle.model.specs.Records.{number_in, program_of, question_of}
use Rattle.facts_candidates.specs.declared.Choice.{Choice}
use Rattle.facts_candidates.specs.Choices.{element_of}
use Rattle.replay_session.specs.declared.Session as state
use Rattle.replay_session.specs.Records.{session_of}
use Rattle.reasons_bodies.specs.Blames.{Blames}
use Rattle.reasons.specs.declared.Reason.{Reason}
use Rattle.reasons.specs.declared.Reason.TheVariants.{Ends, Done, NoLine, NotNext, NoObject, OtherStage, Variables, Carried, Literal}

-- A STEP of what stands on a line, for object o
module _ (P : Program) (db : Database) (o : ℕ) where
  -- no `new` or `next` line
  abbrev pub StepNoLine : Line → Type 0
  StepNoLine (rule r xs b) = Unit {0}
  StepNoLine (new t b) = ⊥
  StepNoLine (next x plus minus b) = ⊥
  StepNoLine other = Unit {0}

  -- a `new` line creates the object with the next number
  abbrev pub StepNotNext : Line → Type 0
  StepNotNext (rule r xs b) = ⊥
  StepNotNext (new t b) = o ≢ length db
  StepNotNext (next x plus minus b) = ⊥
  StepNotNext other = ⊥

  -- a `next` line relabels an object of the database
  abbrev pub StepNoObject : Line → Type 0
  StepNoObject (rule r xs b) = ⊥
  StepNoObject (new t b) = ⊥
  StepNoObject (next x plus minus b) = length db ≤ o
  StepNoObject other = ⊥

  -- the literal at place k of the body
  abbrev pub StepLiteral : ℕ → Line → Type 0
  StepLiteral k (rule r xs b) = ⊥
  StepLiteral k (new t b) = (o ≡ length db) × Blames P db b (λ (σ : ℕ → ℕ). Unit {0}) k
  StepLiteral k (next x plus minus b) = (o < length db) × Blames P db b (λ (σ : ℕ → ℕ). σ x ≡ o) k
  StepLiteral k other = ⊥

  abbrev pub StepFails : Line → Reason → Type 0
  StepFails L Ends = ⊥
  StepFails L Done = ⊥
  StepFails L NoLine = StepNoLine L
  StepFails L NotNext = StepNotNext L
  StepFails L NoObject = StepNoObject L
  StepFails L OtherStage = ⊥
  StepFails L Variables = ⊥
  StepFails L Carried = ⊥
  StepFails L (Literal k) = StepLiteral k L

module _ (P : Program) (Q : Question) (s : Session) where
  -- A MEETING of stage i with the objects os: of the next stage, with an object for each of its variables
  abbrev pub Meeting : ℕ → List ℕ → Type 0
  Meeting i os = (i ≡ suc s.met) × (length os ≡ length (names (stage P Q s)))

  abbrev pub MeetingFails : ℕ → List ℕ → Reason → Type 0
  MeetingFails i os Ends = ⊥
  MeetingFails i os Done = ⊥
  MeetingFails i os NoLine = ⊥
  MeetingFails i os NotNext = ⊥
  -- a named object is not there
  MeetingFails i os NoObject = Meeting i os × ((o : ℕ) × (elem o os ≡ true) × (length s.db ≤ o))
  MeetingFails i os OtherStage = i ≢ suc s.met
  MeetingFails i os Variables = (i ≡ suc s.met) × (length os ≢ length (names (stage P Q s)))
  -- another object is named for a carried variable than the one that it stands for
  MeetingFails i os Carried = Meeting i os × ((x c : ℕ) × (s.carried x ≡ some c) × (elem x (vars (stage P Q s)) ≡ true) × (named (stage P Q s) os x ≢ c))
  MeetingFails i os (Literal k) = Meeting i os × Blames P s.db (stage P Q s) (λ (σ : ℕ → ℕ). (x : ℕ) → elem x (vars (stage P Q s)) ≡ true → σ x ≡ named (stage P Q s) os x) k

  abbrev pub Fails : Place → Reason → Type 0
  Fails (step ℓ o) r = StepFails P s.db o (line P ℓ) r
  Fails (meet i os) r = MeetingFails i os r

  -- WHY THE PLACE IS NOT ALLOWED where the run stands: "nothing follows the last meeting"; or a stage is left, and the place fails
  abbrev pub Because : Place → Reason → Type 0
  Because p Ends = ⊥
  Because p Done = length Q ≤ s.met
  Because p NoLine = (s.met < length Q) × Fails p NoLine
  Because p NotNext = (s.met < length Q) × Fails p NotNext
  Because p NoObject = (s.met < length Q) × Fails p NoObject
  Because p OtherStage = (s.met < length Q) × Fails p OtherStage
  Because p Variables = (s.met < length Q) × Fails p Variables
  Because p Carried = (s.met < length Q) × Fails p Carried
  Because p (Literal k) = (s.met < length Q) × Fails p (Literal k)

-- the reason is that of a place put to the replay's state, where it is not allowed there
abbrev pub Explains : Model → state.Session → Place → Reason → Type 0
Explains m s p r = (Allowed (program_of m) (question_of m) (session_of m s) p → ⊥) → Because (program_of m) (question_of m) (session_of m s) p r

-- an object is carried, and the choice has another for the stage's variable of that number
abbrev pub Swapped : Stage → ℕ → Option ℕ → Choice → Type 0
Swapped g number carried c = (d : ℕ) × (carried ≡ Some d) × ((x : ℕ) × (x < g.variables) × (number_in g x ≡ number) × (element_of c x ≢ Some d))

-- the choice has another object than the carried one for some carried variable, whose numbers are ns
abbrev pub AnySwapped : List ℕ → Stage → List (Option ℕ) → Choice → Type 0
AnySwapped ns g carried c = (v : ℕ) × (v < limit.carried) × Swapped g (slice_index ns v) (slice_index_or carried v None) c

-- there is no object, or it lies beyond the objects of a database
abbrev pub Absent : Option ℕ → ℕ → Type 0
Absent object objects = (e : ℕ) → object ≡ Some e → objects ≤ e

-- one of the n objects of a choice is absent
abbrev pub Beyond : Choice → ℕ → ℕ → Type 0
Beyond c n objects = (x : ℕ) × (x < n) × Absent (element_of c x) objects
