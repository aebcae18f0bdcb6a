-- WHAT CAN STILL BECOME OF AN OBJECT (document 02, R-7), for a program and a question: what is answered, and what is left in the work area and the run table.
use Rattle.std.specs.Prelude.{◌≡◌, ◌⊎◌, ◌≢◌, List, [], ◌∷◌, ◌++◌, map, ℕ, ◌-◌, ◌≤◌, ◌<◌, length, take, drop, slice_index, slice_index_or}
use Rattle.std.proofs.Math.Option.{some}
use Rattle.limits.specs.Limits as limit
use Rattle.semantics.specs.Models.{Program, Question, names}
use Rattle.semantics.specs.Facts.{Database, state}
use Rattle.semantics.specs.Runs as runs
use Rattle.semantics.specs.Runs.{meet, Session, start, Plays, played, count_steps}
use Rattle.semantics.specs.Walkers.{ReachedFrom, FirstNames, Touches}
use Rattle.model.specs.declared.Place.{Place}
use Rattle.model.specs.Places.{number_of, placed, stands_for, place_of}
use Rattle.calls.specs.Wiping.{wiped}
use Rattle.replay_runs.specs.Endings.{Leads}
use Rattle.analyzer_verdict.specs.declared.Answer.{Answer}
use Rattle.analyzer_verdict.specs.declared.Answer.TheVariants.{Reached, Unreached, Refused}
use Rattle.analyzer_verdict.specs.declared.Analysis.{Analysis}
use Rattle.calls.specs.Crowding.{Crowded, too_many}
use Rattle.search_states.specs.Listed.{Listed}
use Rattle.analyzer_verdict.specs.Judging.{refusal}

-- "THE PLACES KEPT SO FAR": from the empty database on each of them is allowed, and they leave the run at t, wherever that is
abbrev pub Leave : Program → Question → List ℕ → Session → Type 0
Leave P Q ns t = Leads P Q (start []) ns (length ns) t

-- THE RUN SHOWN from the database D for its object o, with its n and its last place: these may differ from one correct program to another
pub record ShownFrom (P : Program) (Q : Question) (D : Database) (x o : ℕ) (run run' : List ℕ) (n : ℕ) (place : Place) : Type 0 where
  -- the first n numbers of the table are those of the run's places, which they stand for, and only these are written
  pub places : List runs.Place
  pub count : n ≡ length places
  pub written : take n run' ≡ map number_of places
  pub decoded : map place_of (take n run') ≡ map some places
  pub rest : drop n run' ≡ drop n run
  -- "a run from that database", with no stage met and nothing carried: each place is allowed, and all stages are met; so new objects are "numbered from the number created so far"
  pub plays : Plays P Q (start D) places
  -- "the first variable of stage 1 stands for that object"
  pub names : FirstNames Q x o places
  -- "of at most 8,128 + 126 + 2 × 505 steps"; with 4 meetings, 9,268 places
  pub steps : count_steps places ≤ limit.steps_from
  pub fits : n ≤ limit.shown_from
  -- no object that was there is relabeled but that one
  pub touches : Touches (λ i. (length D ≤ i) ⊎ (i ≡ o)) places
  pub stays : (i : ℕ) → i < length D → i ≢ o → state (played P Q (start D) places).db i ≡ state D i
  -- its last place is the meeting of the last stage, and is the one that is returned
  pub before : List runs.Place
  pub objects : List ℕ
  pub ends : places ≡ before ++ (meet (length Q) objects ∷ [])
  pub meeting : stands_for place ≡ some (meet (length Q) objects)
  pub last : place ≡ placed (slice_index run' (n - 1))

-- THE VERDICT: "all stages are met from here on, counted anew, and the first variable of stage 1", x, "stands for that object"
abbrev pub Answered : Program → Question → Database → ℕ → ℕ → List ℕ → List ℕ → Answer → Type 0
Answered P Q D x o run run' (Reached n last) = ReachedFrom P Q D x o × ShownFrom P Q D x o run run' n last
Answered P Q D x o run run' Unreached = (ReachedFrom P Q D x o → ⊥) × (run' ≡ run)
Answered P Q D x o run run' (Refused n l) = ⊥

module _ (run : List ℕ) (a : Analysis) (run' : List ℕ) where
  -- a refusal "with line 0", which "leaves the buffers as 15 does"
  abbrev pub Refuses : ℕ → Type 0
  Refuses n = (a ≡ refusal n 0) × (run' ≡ run)

  -- "tried in this order": refused with number n in case A, and else what follows
  abbrev pub OrElse : Type 0 → ℕ → Type 0 → Type 0
  OrElse A n next = (A × Refuses n) ⊎ ((A → ⊥) × next)

  module _ (P : Program) (Q : Question) where
    -- object o of the database D, where xs are the variables of stage 1: "17 if stage 1 has no variable; 18 if over 126 objects exist", then 15; and else the verdict with the text's states beside it
    abbrev pub Asked : Database → ℕ → List ℕ → Type 0
    Asked D o [] = Refuses 17
    Asked D o (x ∷ xs) = OrElse (limit.earlier < length D) 18 (OrElse (Crowded P) too_many (Answered P Q D x o run run' a.answer × Listed P a.states a.count))

    -- object o after the places ns: "16 if one of the places is broken or the object hasn't been created"
    abbrev pub Put : List ℕ → ℕ → Type 0
    Put ns o = (((t : Session) → Leave P Q ns t → o < length t.db → ⊥) × Refuses 16)
        ⊎ ((t : Session) × Leave P Q ns t × (o < length t.db) × Asked t.db o (names (slice_index_or Q 0 [])))

-- THE ANSWER a to the question put with the places ns and the object o, with the work area and the run table before and after it; the first work bytes are zero with every answer
pub record Judges (P : Program) (Q : Question) (ns : List ℕ) (o : ℕ) (work run : List ℕ) (a : Analysis) (work' run' : List ℕ) : Type 0 where
  pub answer : Put run a run' P Q ns o
  pub area : work' ≡ wiped work
