-- WHAT THE DESK PROMISES of a text that it wrote, by the contract of the analysis.
use Rattle.std.specs.Prelude.{List, ℕ, ◌≤◌, length, take, Result, Ok, Err}
use Rattle.rows.specs.declared.Refusal.{Refusal}
use Rattle.limits.specs.Limits as limit
use Rattle.analyzer_verdict.specs.declared.Answer as verdict
use Rattle.analyzer_verdict.specs.declared.Answer.TheVariants.{Reached, Unreached, Refused}
use Rattle.analyzer_verdict.specs.declared.Analysis.{Analysis}
use Rattle.analyzer.specs.Analyzing.{Analyzes}
use Rattle.asbestos.specs.Messages.{Process, Marked}

-- AN ANSWER that is "never refused", and reached exactly if X holds
abbrev pub Tells : verdict.Answer → Type 0 → Type 0
Tells (Reached n last) X = X
Tells Unreached X = X → ⊥
Tells (Refused n l) X = ⊥

-- "with buffers of row 12's sizes, is never refused and .. its verdict equals the one defined over messages": whatever the buffers have, and whatever analysis of the text it is
abbrev pub Promised : List Process → ℕ → ℕ → List ℕ → Type 0
Promised kinds port level text =
    (work run : List ℕ) → limit.work ≤ length work → limit.run ≤ length run
    → (a : Analysis) (work' run' : List ℕ) → Analyzes text work run a work' run' → Tells a.answer (Marked kinds port level)

-- the text is the first bytes of the output
abbrev pub Keeps : List Process → ℕ → ℕ → Result ℕ Refusal → List ℕ → Type 0
Keeps kinds port level (Ok n) out' = Promised kinds port level (take n out')
Keeps kinds port level (Err x) out' = Unit {0}
