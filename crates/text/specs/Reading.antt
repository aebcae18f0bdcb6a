-- WHAT READING A TEXT ANSWERS: the record of the model of an accepted text, or the table's refusal.
use Rattle.std.specs.Prelude.{◌≡◌, List, ℕ, ◌+◌, ◌≤◌, ◌<◌, length, Result, MatchResult}
use Rattle.std.proofs.Math.Seq.{slice}
use Rattle.rows.specs.Rows.{number_of}
use Rattle.rows.specs.declared.Refusal.{Refusal}
use Rattle.model.specs.Records.{name_of, program_of, question_of}
use Rattle.model.specs.declared.Model.{Model}
use Rattle.grammar.specs.Bytes.{lines}
use Rattle.grammar.specs.Declarations.{Declared}
use Rattle.grammar.specs.Texts.{Outcome, accepted, refused}
use Rattle.acceptance.specs.Sound.{name_at}
use Rattle.acceptance.specs.Represents.{Represents}

-- each declared name stands in the text where the record says
pub record Names (text : List ℕ) (D : Declared) (m : Model) : Type 0 where
  pub within : (i : ℕ) → i < length D → (name_of m i).start + (name_of m i).len ≤ length text
  pub name : (i : ℕ) → i < length D → slice (name_of m i).start ((name_of m i).start + (name_of m i).len) text ≡ name_at D i

-- m is the record of the model that an accepted text says
pub record Accepts (o : Outcome) (text : List ℕ) (m : Model) : Type 0 where
  pub declared : Declared
  pub says : o ≡ accepted declared (program_of m) (question_of m)
  pub represents : Represents (length (lines text)) declared (program_of m) (question_of m) m
  pub names : Names text declared m

-- THE ANSWER TO A TEXT: the record of the model that the text says, or the table's refusal
abbrev pub Reads : Outcome → List ℕ → Result Model Refusal → Type 0
Reads o text r = MatchResult r (Accepts o text) (λ x. o ≡ refused (number_of x.row) x.line)

-- the same of a reader that fills the record m
abbrev pub Fills : Outcome → List ℕ → Result (Unit {0}) Refusal → Model → Type 0
Fills o text r m = MatchResult r (λ _. Accepts o text m) (λ x. o ≡ refused (number_of x.row) x.line)
