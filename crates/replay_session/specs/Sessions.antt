-- THE REPLAY'S STATE: "a database, the stages met, the carried object and the count of places kept"; document 02, R-5: "A lent state has a carried object for each, in order of first appearance."
use Rattle.std.specs.Prelude as prelude
use Rattle.std.specs.Prelude.{◌≡◌, Bool, true, false, if◌then◌else◌, IfSome, List, [], ◌∷◌, ℕ, ◌+◌, ◌≤◌, ◌<◌, ◌==◌, length, take, set, slice_index, slice_index_or}
use Rattle.std.proofs.Math.Option.{Option, none, some}
use Rattle.limits.specs.Limits as limit
use Rattle.semantics.specs.Labels.{has, relabel}
use Rattle.semantics.specs.Models.{elem, Body, Line, rule, new, next, other, Program, Question, line, vars, carriers}
use Rattle.semantics.specs.Runs as runs
use Rattle.semantics.specs.Runs.{step, meet, named}
use Rattle.replay_session.specs.declared.Position.{Position}
use Rattle.replay_session.specs.declared.Session.{Session}

-- the test says whether the fact holds
abbrev pub Says : Type 0 → Bool → Type 0
Says A true = A
Says A false = A → ⊥

-- the object, if there is one
abbrev pub optional : prelude.Option ℕ → Option ℕ
optional prelude.None = none
optional (prelude.Some o) = some o

-- the object that stands for x, where os are the objects of the carried variables cs, in their order
abbrev pub carried_for : List ℕ → List (prelude.Option ℕ) → ℕ → Option ℕ
carried_for [] os x = none
carried_for (c ∷ cs) [] x = none
carried_for (c ∷ cs) (o ∷ os) x = if x == c then optional o else carried_for cs os x

-- WHERE A RUN STANDS, as the semantics have it, in a text that asks Q
abbrev pub session_of : Question → Session → runs.Session
session_of Q s = record { db = take s.objects s.states; met = s.met; carried = carried_for (carriers Q) s.carried }

-- the state of an object
abbrev pub state_in : Session → ℕ → ℕ
state_in s o = slice_index s.states o

-- the carried object of a cell, if there is one
abbrev pub carried_in : Session → ℕ → prelude.Option ℕ
carried_in s v = slice_index_or s.carried v prelude.None

-- the state with these states of the objects, in the position
abbrev pub session_in : List ℕ → Position → Session
session_in states p = record { states = states; objects = p.objects; met = p.met; carried = p.carried; kept = p.kept }

-- the state but for the states of the objects
abbrev pub position_of : Session → Position
position_of s = record { objects = s.objects; met = s.met; carried = s.carried; kept = s.kept }

-- THE STATE FITS THE TEXT, which declares so many state relations and asks Q: not "over 255 objects, an undeclared relation, too many stages, a carried object not created, or over" 9,344 "places"
pub record Fits (declared : ℕ) (Q : Question) (s : Session) : Type 0 where
  pub objects : s.objects ≤ limit.objects
  pub relations : (o a : ℕ) → o < s.objects → has (state_in s o) a ≡ true → a < declared
  pub stages : s.met ≤ length Q
  pub carried : (v : ℕ) → v < limit.carried → IfSome (carried_in s v) (λ o. o < s.objects)
  pub places : s.kept ≤ limit.run

-- THE STATE AFTER A PLACE. An object is created with a set of relations
abbrev pub created : Session → ℕ → Session
created s t =
    record { states = set s.states s.objects t; objects = s.objects + 1; met = s.met; carried = s.carried; kept = s.kept + 1 }

-- an object is relabeled
abbrev pub relabeled : Session → ℕ → ℕ → ℕ → Session
relabeled s o plus minus =
    record {
      states = set s.states o (relabel (state_in s o) plus minus);
      objects = s.objects;
      met = s.met;
      carried = s.carried;
      kept = s.kept + 1;
    }

-- a stage is met, and these objects are carried from now on
abbrev pub met : Session → List (prelude.Option ℕ) → Session
met s os = record { states = s.states; objects = s.objects; met = s.met + 1; carried = os; kept = s.kept + 1 }

-- a step of a line
abbrev pub stepped : Session → ℕ → Line → Session
stepped s o (rule r xs b) = s
stepped s o (new t b) = created s t
stepped s o (next x plus minus b) = relabeled s o plus minus
stepped s o other = s

-- the objects of the carried variables cs after the meeting of stage b with the objects os, where held are those before it: "where it has none the next meeting with the carried variable sets it"; a variable that does not stand in the stage keeps its own
abbrev pub carried_by : List ℕ → Body → List ℕ → List (prelude.Option ℕ) → List (prelude.Option ℕ)
carried_by [] b os held = held
carried_by (c ∷ cs) b os [] = []
carried_by (c ∷ cs) b os (h ∷ hs) = (if elem c (vars b) then prelude.Some (named b os c) else h) ∷ carried_by cs b os hs

abbrev pub taken : Program → Question → Session → runs.Place → Session
taken P Q s (step ℓ o) = stepped s o (line P ℓ)
taken P Q s (meet i os) = met s (carried_by (carriers Q) (slice_index_or Q s.met []) os s.carried)
