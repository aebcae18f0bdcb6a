-- WHAT A HAND-IN IS WORTH for a program and a question. "Right exactly if the hand-in says no and the question is unreached, or says yes and its run is kept."
use Rattle.std.specs.Prelude.{◌≡◌, ◌≢◌, true, false, List, [], ◌∷◌, ℕ, ◌+◌, ◌≤◌, length, take, drop, Result, Ok, Err}
use Rattle.rows.specs.Rows.{number_of}
use Rattle.rows.specs.declared.Refusal.{Refusal}
use Rattle.semantics.specs.Models.{Program, Question}
use Rattle.semantics.specs.Questions.{Reached}
use Rattle.semantics.specs.Runs.{Place, Session, start, Allowed, Kept}
use Rattle.semantics.specs.Building.{Leads}
use Rattle.calls.specs.Crowding.{Crowded, too_many}
use Rattle.handin.specs.Handins.{Handin, says-no, says-yes, unreadable}
use Rattle.marker_worth.specs.declared.Mark.{Mark}
use Rattle.marker_worth.specs.declared.Mark.TheVariants.{Unreadable, Right, Other, Breaks}

module _ (P : Program) (Q : Question) where
  -- the next place is not allowed, or there is none though a stage is left
  abbrev pub Stuck : Session → List Place → Type 0
  Stuck s [] = s.met ≢ length Q
  Stuck s (p ∷ ps) = Allowed P Q s p → ⊥

  -- A RUN BREAKS from s on at place k, from 0: the places before it are allowed one after the other, and there it is stuck
  abbrev pub BreaksAt : Session → List Place → ℕ → Type 0
  BreaksAt s run k = (k ≤ length run) × ((t : Session) × Leads P Q s (take k run) t × Stuck t (drop k run))

  -- THE MARK of a hand-in, once the text is accepted: a run that breaks is told where, "with the hand-in's line of that place, or its end", if a run could be kept.
  -- A no, and a run that breaks, need a verdict. A run that is kept is right however many states are reachable: the refusal comes "from an analysis, never from a replay".
  abbrev pub Worth : Handin → Result Mark Refusal → Type 0
  Worth (unreadable at) r = r ≡ Ok (Unreadable at)
  Worth says-no (Ok Right) = (Reached P Q → ⊥) × (Crowded P → ⊥)
  Worth says-no (Ok (Other reached)) = (reached ≡ true) × Reached P Q × (Crowded P → ⊥)
  Worth says-no (Ok (Breaks place line)) = ⊥
  Worth says-no (Ok (Unreadable line)) = ⊥
  Worth says-no (Err x) = Crowded P × (number_of x.row ≡ too_many) × (x.line ≡ 0)
  Worth (says-yes first run) (Ok Right) = Kept P Q run
  Worth (says-yes first run) (Ok (Other reached)) = (reached ≡ false) × (Reached P Q → ⊥) × (Crowded P → ⊥)
  Worth (says-yes first run) (Ok (Breaks place line)) = Reached P Q × BreaksAt (start []) run place × (line ≡ first + place) × (Crowded P → ⊥)
  Worth (says-yes first run) (Ok (Unreadable line)) = ⊥
  Worth (says-yes first run) (Err x) = ((place : ℕ) × BreaksAt (start []) run place) × Crowded P × (number_of x.row ≡ too_many) × (x.line ≡ 0)
