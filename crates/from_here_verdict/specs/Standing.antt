-- WHERE THE QUESTION IS PUT: the state to which places lead, as the record of a text has it, and what is answered about an object there.
use Rattle.std.specs.Prelude.{List, ℕ, ◌≤◌, ◌<◌, length}
use Rattle.limits.specs.Limits as limit
use Rattle.semantics.specs.Facts.{Database}
use Rattle.model.specs.declared.Model.{Model}
use Rattle.model.specs.Records.{program_of, question_of, stage_at}
use Rattle.model.specs.WellFormed.{WellFormed}
use Rattle.replay_session.specs.declared.Session.{Session}
use Rattle.replay_session.specs.Records.{session_of}
use Rattle.replay_runs.specs.Endings.{Stopped}
use Rattle.search_levels.specs.Levels.{first_variable}
use Rattle.analyzer_verdict.specs.declared.Answer.{Answer}
use Rattle.analyzer_verdict.specs.declared.Analysis.{Analysis}
use Rattle.calls.specs.Crowding.{Crowded, too_many}
use Rattle.search_states.specs.Listed.{Listed}
use Rattle.from_here_verdict.specs.From.{Answered, OrElse}

-- some places lead to the state, which has the object and not too many others; and stage 1 has a variable
pub record Ready (m : Model) (s : Session) (o : ℕ) : Type 0 where
  pub model : WellFormed m
  pub places : List ℕ
  pub stopped : Stopped m places (length places) s
  pub created : o < s.objects
  pub few : s.objects ≤ limit.earlier
  pub variable : 0 < (stage_at m 0).variables

-- the database there
abbrev pub there : Model → Session → Database
there m s = (session_of m s).db

-- the verdict on the object
abbrev pub Concluded : Model → Session → ℕ → List ℕ → List ℕ → Answer → Type 0
Concluded m s o run run' = Answered (program_of m) (question_of m) (there m s) (first_variable m) o run run'

-- too many states, or the verdict with the states beside it
abbrev pub Told : Model → Session → ℕ → List ℕ → Analysis → List ℕ → Type 0
Told m s o run a run' = OrElse run a run' (Crowded (program_of m)) too_many (Concluded m s o run run' a.answer × Listed (program_of m) a.states a.count)
