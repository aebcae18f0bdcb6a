-- THE SHORTEST WAY OVER A TEXT (document 02, R-13): what the call answers, and what the work area and the run table then have, for all inputs.
use Rattle.std.specs.Prelude.{◌≡◌, false, List, ℕ, length, Option, Result}
use Rattle.rows.specs.Rows.{Refuses}
use Rattle.rows.specs.declared.Refusal.{Refusal}
use Rattle.grammar.specs.Texts.{Outcome, accepted, refused}
use Rattle.calls.specs.Calls.{short, called}
use Rattle.shortest_answer.specs.Answering.{Finds}

-- WHAT THE CALL LEAVES, by the table's answer to it: after a refusal of the text "both buffers are untouched"; an accepted text has an answer
abbrev pub Leaves : Outcome → ℕ → ℕ → List ℕ → List ℕ → Result (Option ℕ) Refusal → List ℕ → List ℕ → Type 0
Leaves (refused n l) s t work run a work' run' = Refuses n l a × (work' ≡ work) × (run' ≡ run)
Leaves (accepted D P Q) s t work run a work' run' = Finds P s t work run a work' run'

-- THE ANSWER a to a text and two states, with the work area and the run table before and after it. "Order: 1, 12, .. then line by line"; row 14 speaks of replays only.
abbrev pub Asks : List ℕ → ℕ → ℕ → List ℕ → List ℕ → Result (Option ℕ) Refusal → List ℕ → List ℕ → Type 0
Asks text s t work run a work' run' = Leaves (called text (short (length work) (length run)) false) s t work run a work' run'
