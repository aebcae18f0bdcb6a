-- The row in an answer, and two answers in one.
use Rattle.std.specs.Prelude.{◌≡◌, Bool, true, false, ℕ, Option, Some, Result, Ok, Err, IfOk}
use Rattle.std.proofs.Math.Option as math
use Rattle.grammar.specs.Rows.{lower, plain_fault, negated_fault}
use Rattle.rows.specs.Rows.{number_of}
use Rattle.rows.specs.declared.Row.{Row}
use Rattle.rows.specs.declared.Row.TheVariants.{Shape}
use Rattle.grammar.specs.Forms.{Form}
use Rattle.grammar.specs.Shapes.{Read, whole}

-- the number of the row in an answer, 0 where there is none
abbrev pub fault_in : {A : Type 0} → Result A Row → ℕ
fault_in (Ok a) = 0
fault_in (Err r) = number_of r

-- the answer r has both values, or the lowest row
pub record Both {A B : Type 0} (a : Result A Row) (b : Result B Row) (r : Result (A × B) Row) : Type 0 where
  pub number : fault_in r ≡ lower (fault_in a) (fault_in b)
  pub values : IfOk r (λ p. (a ≡ Ok p.0) × (b ≡ Ok p.1))

-- the answer r has the code, or the row with that number
pub record Coded (number : ℕ) (code : Option ℕ) (r : Result ℕ Row) : Type 0 where
  pub row : fault_in r ≡ number
  pub value : IfOk r (λ c. code ≡ Some c)

-- the number of a literal with or without `not`
abbrev pub sign_fault : Bool → math.Option ℕ → ℕ → ℕ
sign_fault true c n = negated_fault c n
sign_fault false c n = plain_fault c n

-- THE ANSWER TO A LINE that is read to its end: row 3 where it has no shape, otherwise the number of its form's row, or what is good for the form
pub data Judged {A : Type 0} (read : Read Form) (Number : Form → ℕ → Type 0) (Good : Form → A → Type 0) (r : Result A Row) : Type 0 where
  unshaped : whole read ≡ math.none → r ≡ Err Shape → Judged read Number Good r
  shaped : (form : Form) → whole read ≡ math.some form → Number form (fault_in r) → IfOk r (Good form) → Judged read Number Good r
