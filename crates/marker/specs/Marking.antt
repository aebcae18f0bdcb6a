-- THE MARK OF A HAND-IN TO A TEXT: what the call answers, and what the work area and the two tables then have, for all inputs.
use Rattle.std.specs.Prelude.{◌≡◌, Bool, false, ◌||◌, List, [], ◌++◌, map, ℕ, nat_lt, length, drop, Result}
use Rattle.rows.specs.Rows.{Refuses}
use Rattle.rows.specs.declared.Refusal.{Refusal}
use Rattle.limits.specs.Limits as limit
use Rattle.semantics.specs.Models.{Program, Question}
use Rattle.semantics.specs.Runs.{start}
use Rattle.grammar.specs.Texts.{Outcome, accepted, refused}
use Rattle.model.specs.Places.{number_of}
use Rattle.calls.specs.Calls.{short, called}
use Rattle.calls.specs.Wiping.{wiped}
use Rattle.replay_session.specs.Notes.{Notes}
use Rattle.handin.specs.Handins.{Handin, says-no, says-yes, unreadable, reading}
use Rattle.marker_worth.specs.declared.Mark.{Mark}
use Rattle.marker_worth.specs.Worth.{Worth}

-- row 12, of the work area and of both tables: the one for the run, and the one for those who stood by
abbrev pub narrow : ℕ → ℕ → ℕ → Bool
narrow bytes places standing = short bytes places || nat_lt standing limit.run

-- WHAT AN ACCEPTED TEXT LEAVES in the buffers, by what the hand-in says: an unreadable one leaves them; the run of a yes is written by its numbers, and who stood by at its kept steps is noted.
-- It is so whatever the mark, 15 too, after which document 02 has "the first 65,536 work bytes zero": the table has the run of the hand-in itself, not one that is shown.
abbrev pub Leaves : Program → Question → Handin → List ℕ → List ℕ → List ℕ → List ℕ → List ℕ → List ℕ → Type 0
Leaves P Q (unreadable at) work run stood work' run' stood' = (work' ≡ work) × (run' ≡ run) × (stood' ≡ stood)
Leaves P Q says-no work run stood work' run' stood' = (work' ≡ wiped work) × (run' ≡ run) × (stood' ≡ stood)
Leaves P Q (says-yes first ps) work run stood work' run' stood' =
    (work' ≡ wiped work) × (run' ≡ map number_of ps ++ drop (length ps) run) × Notes P Q (start []) (map number_of ps) stood stood'

-- THE MARK r, by the table's answer to the text: a refusal of its lines leaves the buffers, whatever the hand-in says; 15 "follows all checks of lines"
abbrev pub Marked : Outcome → Handin → List ℕ → List ℕ → List ℕ → Result Mark Refusal → List ℕ → List ℕ → List ℕ → Type 0
Marked (refused n l) h work run stood r work' run' stood' = Refuses n l r × (work' ≡ work) × (run' ≡ run) × (stood' ≡ stood)
Marked (accepted D P Q) h work run stood r work' run' stood' = Worth P Q h r × Leaves P Q h work run stood work' run' stood'

-- THE CALL. Row 14 speaks of a run that is lent; that of a hand-in is never too long.
abbrev pub Marks : List ℕ → List ℕ → List ℕ → List ℕ → List ℕ → Result Mark Refusal → List ℕ → List ℕ → List ℕ → Type 0
Marks text handin work run stood = Marked (called text (narrow (length work) (length run) (length stood)) false) (reading handin) work run stood
