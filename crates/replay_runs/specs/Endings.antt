-- WHERE A RUN ENDS OR BREAKS.
use Rattle.std.specs.Prelude.{◌≡◌, List, [], ◌∷◌, ℕ, zero, suc, ◌≤◌, length}
use Rattle.std.proofs.Math.Option.{some}
use Rattle.limits.specs.Limits as limit
use Rattle.semantics.specs.Models.{Program, Question}
use Rattle.semantics.specs.Runs as runs
use Rattle.semantics.specs.Runs.{start, Allowed, after}
use Rattle.model.specs.declared.Model.{Model}
use Rattle.model.specs.Records.{program_of, question_of}
use Rattle.model.specs.Places.{place_of}
use Rattle.replay_session.specs.declared.Answer.{Answer}
use Rattle.replay_session.specs.declared.Answer.TheVariants.{Kept, Broken}
use Rattle.replay_session.specs.declared.Session.{Session}
use Rattle.replay_session.specs.Records.{session_of, Fits}

-- WHERE THE FIRST k PLACES LEAD from s on, each of which is allowed
abbrev pub Leads : Program → Question → runs.Session → List ℕ → ℕ → runs.Session → Type 0
Leads P Q s ns zero t = t ≡ s
Leads P Q s [] (suc k) t = ⊥
Leads P Q s (n ∷ ns) (suc k) t = (p : runs.Place) × (place_of n ≡ some p) × Allowed P Q s p × Leads P Q (after P Q s p) ns k t

-- the first k places of the run lead to the state, which fits and has kept them
pub record Stopped (m : Model) (run : List ℕ) (k : ℕ) (s : Session) : Type 0 where
  pub within : k ≤ length run
  pub kept : s.kept ≡ k
  pub fits : Fits m s
  pub long : length s.states ≡ limit.objects
  pub cells : length s.carried ≡ limit.carried
  pub leads : Leads (program_of m) (question_of m) (start []) run k (session_of m s)

-- the state where a run ends, or where one that is broken at place k broke
abbrev pub Ends : Model → List ℕ → Answer → Session → Type 0
Ends m run Kept s = Stopped m run (length run) s
Ends m run (Broken k) s = Stopped m run k s
