-- WHAT CAN STILL BECOME OF AN OBJECT, asked of a text: what the call answers, and what the work area and the run table then have, for all inputs.
use Rattle.std.specs.Prelude.{◌≡◌, List, ℕ, nat_lt, length}
use Rattle.limits.specs.Limits as limit
use Rattle.grammar.specs.Texts.{Outcome, accepted, refused}
use Rattle.calls.specs.Calls.{short, called}
use Rattle.analyzer_verdict.specs.declared.Analysis.{Analysis}
use Rattle.analyzer_verdict.specs.Judging.{refusal}
use Rattle.from_here_verdict.specs.From.{Judges}

-- WHAT THE CALL LEAVES, by the table's answer to it: after a refusal of it "both buffers are untouched"; else the question is put with the places ns and the object o, "after the checks of lines"
abbrev pub Leaves : Outcome → List ℕ → ℕ → List ℕ → List ℕ → Analysis → List ℕ → List ℕ → Type 0
Leaves (refused n l) ns o work run a work' run' = (a ≡ refusal n l) × (work' ≡ work) × (run' ≡ run)
Leaves (accepted D P Q) ns o work run a work' run' = Judges P Q ns o work run a work' run'

-- THE ANSWER a, with the work area and the run table before and after it. "Order: 1, 12, 14, then line by line"; "Row 14 covers the places". No replay's state is lent, so one that is left open is unaffected.
abbrev pub Asks : List ℕ → List ℕ → ℕ → List ℕ → List ℕ → Analysis → List ℕ → List ℕ → Type 0
Asks text ns o work run a work' run' = Leaves (called text (short (length work) (length run)) (nat_lt limit.run (length ns))) ns o work run a work' run'
