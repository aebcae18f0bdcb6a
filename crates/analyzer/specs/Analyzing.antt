-- THE ANALYSIS OF A TEXT: what the call answers, and what the work area and the run table then have, for all inputs.
use Rattle.std.specs.Prelude.{◌≡◌, false, List, ℕ, length}
use Rattle.grammar.specs.Texts.{Outcome, accepted, refused}
use Rattle.calls.specs.Calls.{short, called}
use Rattle.analyzer_verdict.specs.declared.Analysis.{Analysis}
use Rattle.analyzer_verdict.specs.Judging.{refusal, Judges}

-- WHAT THE CALL LEAVES, by the table's answer to it: after a refusal of it "both buffers are untouched"; an accepted text is judged, so 15 "follows all checks of lines, the missing `ask` included"
abbrev pub Leaves : Outcome → List ℕ → List ℕ → Analysis → List ℕ → List ℕ → Type 0
Leaves (refused n l) work run a work' run' = (a ≡ refusal n l) × (work' ≡ work) × (run' ≡ run)
Leaves (accepted D P Q) work run a work' run' = Judges P Q work run a work' run'

-- THE ANALYSIS a of a text, with the work area and the run table before and after it. "Order: 1, 12, .. then line by line"; row 14 speaks of replays only.
abbrev pub Analyzes : List ℕ → List ℕ → List ℕ → Analysis → List ℕ → List ℕ → Type 0
Analyzes text work run a work' run' = Leaves (called text (short (length work) (length run)) false) work run a work' run'
