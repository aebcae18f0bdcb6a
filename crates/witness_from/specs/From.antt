-- THE SHOWN RUN FROM A DATABASE (document 02, R-7): all stages are met from there on, and the first variable of stage 1 stands for one of its objects.
use Rattle.std.specs.Prelude.{◌≡◌, ◌⊎◌, ◌≢◌, Bool, true, false, if◌then◌else◌, List, [], ◌∷◌, ◌++◌, map, ℕ, ◌+◌, ◌-◌, ◌≤◌, ◌<◌, ◌==◌, length, take, drop, slice_index_or}
use Rattle.std.proofs.Math.Option.{some}
use Rattle.limits.specs.Limits as limit
use Rattle.semantics.specs.Facts.{Database, state, Meets}
use Rattle.semantics.specs.Runs.{Place, meet, start, Plays, played, count_steps}
use Rattle.semantics.specs.Building.{session, follows}
use Rattle.semantics.specs.Walkers.{FirstNames, Touches}
use Rattle.model.specs.declared.Model.{Model}
use Rattle.model.specs.Records.{program_of, question_of, carried_at}
use Rattle.model.specs.Places.{place_of}
use Rattle.search_states.specs.declared.States.{States}
use Rattle.search_states.specs.States.{row}
use Rattle.search_levels.specs.Levels.{holder}
use Rattle.witness_table.specs.Runs.{numbers}
use Rattle.witness_meetings.specs.declared.Cast.{Cast}
use Rattle.witness_meetings.specs.Meetings.{Seats, gathering, first_variable, Opens}
use Rattle.witness_walk.specs.Walk.{Errand, effort, Sits}

-- WHAT IS SHOWN from the database D with its object p: the first r numbers of the table are those of the places, which they stand for; the others are as they were.
-- With no stage met and nothing carried each place is allowed and all stages are met; the first meeting names p for the first variable of stage 1.
-- Of the objects of D only p is ever relabeled. The last place is the meeting of the last stage.
pub record ShownFrom (m : Model) (D : Database) (p : ℕ) (run run' : List ℕ) (r : ℕ) : Type 0 where
  pub places : List Place
  pub plays : Plays (program_of m) (question_of m) (start D) places
  pub names : FirstNames (question_of m) (first_variable m) p places
  pub touches : Touches (λ o. (length D ≤ o) ⊎ (o ≡ p)) places
  pub stays : (o : ℕ) → o < length D → o ≢ p → state (played (program_of m) (question_of m) (start D) places).db o ≡ state D o
  pub steps : count_steps places ≤ limit.steps_from
  pub index : r ≡ length places
  pub few : r ≤ limit.shown_from
  pub written : run' ≡ numbers places ++ drop r run
  pub decoded : map place_of (take r run') ≡ map some places
  pub last : (first : List Place) × (os : List ℕ) × (places ≡ first ++ (meet m.stagecount os ∷ []))

-- WHAT STAGE 1 ASKS BESIDES: it holds with each pair of level 1 and, for its first variable, a slot to which an object can come from slot a
abbrev pub Openable : Model → List ℕ → States → List ℕ → List ℕ → ℕ → Type 0
Openable m w s rows ways a = (e f : ℕ) → Sits rows 1 e f → (σ : ℕ → ℕ) × Opens m w s ways a e f σ

-- the first variable of stage 1 is carried: it is the first carried one
abbrev pub first_carried : Model → Bool
first_carried m = first_variable m == carried_at m 0

-- THE CAST behind n objects, where there are k states: object p is there from the start if c says that its variable is carried
abbrev pub cast_from : Bool → ℕ → ℕ → ℕ → Cast
cast_from true n k p = record { base = n; first = p; second = n + k }
cast_from false n k p = record { base = n; first = n + k; second = n + k + 1 }

-- the places by which the first carried variable's object comes to slot e before stage 1: none where c says that it is the one there from the start
abbrev pub Approach : Model → States → Bool → ℕ → ℕ → List Place → Type 0
Approach m s true o e ps = ps ≡ []
Approach m s false o e ps = Errand m s o (holder m 0 0) false e e ps

abbrev pub approached : Model → States → Bool → ℕ
approached m s c = if c then 0 else effort s.count (holder m 0 0) false

-- THE OPENING: p is led from slot a to the slot of its variable, the objects of the carried variables are made, and stage 1 is met with the pair e f
pub record Opening (m : Model) (s : States) (cast : Cast) (c : Bool) (p a e f : ℕ) (ps : List Place) : Type 0 where
  pub choice : ℕ → ℕ
  pub meets : Meets (program_of m) (row s) choice (slice_index_or (question_of m) 0 [])
  pub seats : Seats m 0 choice e f
  pub way : List Place
  pub first : List Place
  pub second : List Place
  pub led : Errand m s p true true a (choice (first_variable m)) way
  pub makes : Approach m s c cast.first e first
  pub makes-too : Errand m s cast.second (holder m 1 0) false f f second
  pub parts : ps ≡ way ++ (first ++ (second ++ (gathering m cast (follows (first_variable m) p) 0 choice ∷ [])))

-- how many places these are at most
abbrev pub opened : Model → States → Bool → ℕ
opened m s c = (s.count - 1) + (approached m s c + (effort s.count (holder m 1 0) false + 1))

-- the places are played from B D for every database D with n objects of which p has the state of slot a, and p stands for the variable from the start; their steps are of p and of new objects
pub record PlaysWith (m : Model) (s : States) (n p a : ℕ) (B : Database → Database) (ps : List Place) : Type 0 where
  pub plays : (D : Database) → length D ≡ n → state D p ≡ state (row s) a → Plays (program_of m) (question_of m) (session (B D) 0 (follows (first_variable m) p)) ps
  pub touches : Touches (λ o. (n ≤ o) ⊎ (o ≡ p)) ps
