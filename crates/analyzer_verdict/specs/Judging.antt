-- WHAT THE ANALYSIS OF A PROGRAM AND A QUESTION ANSWERS, and what it leaves in the work area and the run table.
use Rattle.std.specs.Prelude.{◌≡◌, List, [], ◌∷◌, ◌++◌, map, ℕ, ◌-◌, ◌≤◌, length, take, drop, slice_index, replicate}
use Rattle.std.proofs.Math.Option.{some}
use Rattle.limits.specs.Limits as limit
use Rattle.semantics.specs.Models.{Program, Question}
use Rattle.semantics.specs.Questions as questions
use Rattle.semantics.specs.Runs as runs
use Rattle.semantics.specs.Runs.{meet, Kept}
use Rattle.semantics.specs.PlayingOn.{PlayingOn}
use Rattle.model.specs.declared.Place.{Place}
use Rattle.model.specs.Places.{number_of, placed, stands_for, place_of}
use Rattle.search_states.specs.declared.Listing.{Listing}
use Rattle.search_states.specs.Listed.{Listed}
use Rattle.calls.specs.Wiping.{wiped}
use Rattle.calls.specs.Crowding.{Crowded, too_many}
use Rattle.analyzer_verdict.specs.declared.Answer.{Answer}
use Rattle.analyzer_verdict.specs.declared.Answer.TheVariants.{Reached, Unreached, Refused}
use Rattle.analyzer_verdict.specs.declared.Analysis.{Analysis}

-- THE RUN SHOWN, with its n and its last place: these may differ from one correct program to another
pub record Shown (P : Program) (Q : Question) (run run' : List ℕ) (n : ℕ) (place : Place) : Type 0 where
  -- the first n numbers of the table are those of the run's places, which they stand for, and "only its first n places" are written
  pub places : List runs.Place
  pub count : n ≡ length places
  pub written : take n run' ≡ map number_of places
  pub decoded : map place_of (take n run') ≡ map some places
  pub rest : drop n run' ≡ drop n run
  -- "a run may need 8,128 + 2 × 505 steps"; with 4 meetings, 9,142 places
  pub fits : n ≤ limit.shown
  -- demand 2: the replay keeps it
  pub kept : Kept P Q places
  -- "inside a reached answer stands the kind of its last place, a meeting with its stage and objects": that of the last number, and of the last stage
  pub before : List runs.Place
  pub objects : List ℕ
  pub ends : places ≡ before ++ (meet (length Q) objects ∷ [])
  pub meeting : stands_for place ≡ some (meet (length Q) objects)
  pub last : place ≡ placed (slice_index run' (n - 1))
  -- demand 3
  pub playing : PlayingOn P Q limit.run places

-- THE ANSWER: 15 "exactly if" there are too many states, the run table untouched, and else a verdict that is right; the run table "is written only for reached"
abbrev pub Answered : Program → Question → List ℕ → List ℕ → Answer → Type 0
Answered P Q run run' (Reached n last) = (Crowded P → ⊥) × questions.Reached P Q × Shown P Q run run' n last
Answered P Q run run' Unreached = (Crowded P → ⊥) × (questions.Reached P Q → ⊥) × (run' ≡ run)
Answered P Q run run' (Refused n l) = Crowded P × (n ≡ too_many) × (l ≡ 0) × (run' ≡ run)

-- THE STATES stand beside a verdict; "beside a refusal" they are "none and 0"
abbrev pub Beside : Program → List ℕ → ℕ → Answer → Type 0
Beside P states n (Reached places last) = Listed P states n
Beside P states n Unreached = Listed P states n
Beside P states n (Refused number line) = (states ≡ replicate limit.listed 0) × (n ≡ 0)

-- A REFUSAL with its number and line
abbrev pub refusal : ℕ → ℕ → Analysis
refusal n l = record { answer = Refused n l; states = replicate limit.listed 0; count = 0 }

-- AN ANSWER with the listed states beside it
abbrev pub answer_beside : Answer → Listing → Analysis
answer_beside a l = record { answer = a; states = l.states; count = l.count }

-- THE ANALYSIS a of a program and a question, with the work area and the run table before and after it; "the first 65,536 work bytes zero" with every answer
pub record Judges (P : Program) (Q : Question) (work run : List ℕ) (a : Analysis) (work' run' : List ℕ) : Type 0 where
  pub verdict : Answered P Q run run' a.answer
  pub states : Beside P a.states a.count a.answer
  pub area : work' ≡ wiped work
