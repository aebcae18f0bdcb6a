-- FROM LINE TO LINE: how far a text is read.
use Rattle.std.specs.Prelude.{◌≡◌, List, ℕ, suc, ◌+◌, ◌≤◌, length, take, drop}
use Rattle.limits.specs.Limits as limit
use Rattle.model.specs.Records.{program_of}
use Rattle.model.specs.declared.Model.{Model}
use Rattle.grammar.specs.Bytes.{bytes, lines}
use Rattle.grammar.specs.Texts.{Outcome, read_lines}
use Rattle.text_names.specs.Names.{Valid, declared_of}
use Rattle.text_names.specs.declared.Declared.{Declared}
use Rattle.text_scan.specs.Found.{BytesEnd, LineEnd}
use Rattle.text_declarations.specs.Declares.{Limited}
use Rattle.text_record.specs.Stored as stored

-- before line n, which begins at byte `at`: the declarations and the record of the lines before it
pub record Reached (text : List ℕ) (at n : ℕ) (d : Declared) (m : Model) : Type 0 where
  pub place : at ≤ length text
  pub number : n + length (lines (drop at text)) ≡ suc (length (lines text))
  pub small : n ≤ suc at
  pub valid : Valid (take at text) d
  pub limited : Limited d
  pub holds : stored.Holds m (program_of m)
  pub stagecount : m.stagecount ≡ 0
  pub stages : length m.stages ≡ limit.stages

-- what is answered to the lines from there on
unfoldable pub onwards : List ℕ → ℕ → ℕ → Declared → Model → Outcome
onwards text at n d m = read_lines n (declared_of (take at text) d) (program_of m) (lines (drop at text))

-- it is the `ask` line, whose first word ends at `ask`
pub record AskLine (text : List ℕ) (at ask e : ℕ) : Type 0 where
  pub line : LineEnd text at e
  pub word : BytesEnd (take e text) at (bytes "(ask ") ask
