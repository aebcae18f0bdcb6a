-- A MODEL WITHOUT SOME OF ITS LINES, as a record of its own: all that is said of well-formed models holds of it.
use Rattle.std.specs.Prelude.{◌≡◌, List, ℕ}
use Rattle.model.specs.declared.Model.{Model}
use Rattle.model.specs.Records.{program_of, question_of}
use Rattle.model.specs.WellFormed.{WellFormed}
use Rattle.striking.specs.Striking.{strike}

-- r is the model m with these lines struck
pub record Strikes (m : Model) (lines : List ℕ) (r : Model) : Type 0 where
  pub program : program_of r ≡ strike (program_of m) lines
  pub question : question_of r ≡ question_of m
  pub formed : WellFormed r
