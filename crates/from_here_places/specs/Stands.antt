-- WHERE PLACES LEAD from the empty database, wherever they end.
use Rattle.std.specs.Prelude.{Bool, true, Option, Some, None, List, [], ℕ, ◌==◌, length}
use Rattle.semantics.specs.Runs as runs
use Rattle.semantics.specs.Runs.{start}
use Rattle.model.specs.declared.Model.{Model}
use Rattle.model.specs.Records.{program_of, question_of}
use Rattle.replay_session.specs.declared.Answer.{Answer}
use Rattle.replay_session.specs.declared.Answer.TheVariants.{Kept, Broken}
use Rattle.replay_session.specs.declared.Session.{Session}
use Rattle.replay_runs.specs.Endings.{Leads, Stopped}

-- the answer to a run of n places says that none of them is broken: "a run that ends early is broken at its length"
abbrev pub unbroken : Answer → ℕ → Bool
unbroken Kept n = true
unbroken (Broken k) n = k == n

-- all places are allowed, and lead to the state; or they lead nowhere, since one of them is broken
abbrev pub Stands : Model → List ℕ → Option Session → Type 0
Stands m ns (Some s) = Stopped m ns (length ns) s
Stands m ns None = (t : runs.Session) → Leads (program_of m) (question_of m) (start []) ns (length ns) t → ⊥
