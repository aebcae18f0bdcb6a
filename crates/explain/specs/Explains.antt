-- WHAT IS SAID OF A RUN put to a text: the replay's answer, and for a broken run the reason.
use Rattle.std.specs.Prelude.{◌≡◌, ◌⊎◌, List, [], ℕ, ◌<◌, length, slice_index, Result}
use Rattle.std.proofs.Math.Option.{some}
use Rattle.semantics.specs.Models.{Program, Question}
use Rattle.semantics.specs.Runs as runs
use Rattle.semantics.specs.Runs.{start}
use Rattle.model.specs.Places.{place_of}
use Rattle.grammar.specs.Texts.{Outcome, accepted, refused}
use Rattle.rows.specs.Rows.{Refuses}
use Rattle.rows.specs.declared.Refusal.{Refusal}
use Rattle.calls.specs.Calls.{Gives}
use Rattle.replay_session.specs.declared.Answer.{Answer}
use Rattle.replay_session.specs.declared.Answer.TheVariants as answer
use Rattle.replay_session.specs.Replays.{Replays}
use Rattle.replay_runs.specs.Endings.{Leads}
use Rattle.replay.specs.Replies.{Replayed}
use Rattle.reasons.specs.declared.Reason.{Reason}
use Rattle.reasons.specs.declared.Reason.TheVariants.{Ends}
use Rattle.reasons.specs.Reasons.{Because}
use Rattle.explain.specs.declared.Explanation.{Explanation}
use Rattle.explain.specs.declared.Explanation.TheVariants.{Kept, Broken}

-- WHY A RUN BREAKS AT PLACE k: it ended there with a stage left; or the reason is that of its place, where the number has one, in the state to which the places before it lead
abbrev pub Reasoned : Program → Question → List ℕ → ℕ → Reason → Type 0
Reasoned P Q run k r =
    ((k ≡ length run) × (r ≡ Ends))
    ⊎ ((k < length run) × ((p : runs.Place) → place_of (slice_index run k) ≡ some p → (s : runs.Session) × Leads P Q (start []) run k s × Because P Q s p r))

-- the explanation of an answer over a program and a question
abbrev pub Tells : Program → Question → List ℕ → Answer → Explanation → Type 0
Tells P Q run answer.Kept x = x ≡ Kept
Tells P Q run (answer.Broken k) x = (r : Reason) × (x ≡ Broken k r) × Reasoned P Q run k r

-- the explanation of the answer that the replay gives
abbrev pub Told : Program → Question → List ℕ → Explanation → Type 0
Told P Q run x = (a : Answer) × Replays P Q (start []) run 0 a × Tells P Q run a x

-- the explanation of an answer to a text; of a text that is refused there is none
abbrev pub Says : Outcome → List ℕ → Result Answer Refusal → Result Explanation Refusal → Type 0
Says (refused n l) run a x = Refuses n l x
Says (accepted D P Q) run a x = Gives (λ b. Gives (Tells P Q run b) x) a

-- WHAT IS SAID: what belongs to the answer that the replay gives, with the work area and the table that it leaves
pub record Explained (o : Outcome) (run work table : List ℕ) (x : Result Explanation Refusal) (work' table' : List ℕ) : Type 0 where
  pub answer : Result Answer Refusal
  pub replayed : Replayed o run work table answer work' table'
  pub says : Says o run answer x
