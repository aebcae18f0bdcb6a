-- WHAT THE REPLAY ANSWERS to a text: "after every answer that is no refusal, a single place's included, the first" 65,536 "work bytes are zero and the rest untouched".
use Rattle.std.specs.Prelude.{◌≡◌, Bool, List, [], ℕ, ◌==◌, nat_lt, length, Result}
use Rattle.limits.specs.Limits as limit
use Rattle.semantics.specs.Runs.{start}
use Rattle.grammar.specs.Declarations.{count}
use Rattle.grammar.specs.Texts.{Outcome, accepted, refused}
use Rattle.rows.specs.Rows.{Refuses}
use Rattle.rows.specs.declared.Refusal.{Refusal}
use Rattle.calls.specs.Calls.{short, called, Gives}
use Rattle.calls.specs.Wiping.{wiped}
use Rattle.replay_session.specs.declared.Answer.{Answer}
use Rattle.replay_session.specs.declared.Session.{Session}
use Rattle.replay_session.specs.declared.PlaceAnswer.{PlaceAnswer}
use Rattle.replay_session.specs.Replays.{Replays}
use Rattle.replay_session.specs.Notes.{Notes}
use Rattle.replay_runs.specs.Replies.{PlaceReply}

-- row 12, "work area under" 65,536 "bytes"
abbrev pub narrow : List ℕ → Bool
narrow work = nat_lt (length work) limit.work

-- A WHOLE RUN: row 12 of the work area and of the table that is lent for writing; row 14, "a replay of a run over" 9,344 "places"
abbrev pub run_outcome : List ℕ → List ℕ → List ℕ → List ℕ → Outcome
run_outcome text run work table = called text (short (length work) (length table)) (nat_lt limit.run (length run))

-- the answer, and the work area and the table after it
abbrev pub Replayed : Outcome → List ℕ → List ℕ → List ℕ → Result Answer Refusal → List ℕ → List ℕ → Type 0
Replayed (refused n l) run work table a work' table' = Refuses n l a × (work' ≡ work) × (table' ≡ table)
Replayed (accepted D P Q) run work table a work' table' = Gives (Replays P Q (start []) run 0) a × Notes P Q (start []) run table table' × (work' ≡ wiped work)

-- ONE PLACE: row 14, "a place put to a lent state that has kept" 9,344
abbrev pub place_outcome : List ℕ → Session → List ℕ → Outcome
place_outcome text s work = called text (narrow work) (s.kept == limit.run)

-- the answer, the state after the place, and the work area after it; "refusals leave it"
abbrev pub Put : Outcome → Session → ℕ → List ℕ → Result PlaceAnswer Refusal → Session → List ℕ → Type 0
Put (refused n l) s place work a t after = Refuses n l a × (t ≡ s) × (after ≡ work)
Put (accepted D P Q) s place work a t after = Gives (λ b. PlaceReply (count 0 D) P Q s place b t) a × (after ≡ wiped work)
