-- WHAT THE EXPORTED CALL ANSWERS: the whole contract of the public call, its answer as a number and its lines as cells.
use Rattle.std.specs.Prelude.{◌≡◌, List, ℕ, Option, Result}
use Rattle.rows.specs.declared.Refusal.{Refusal}
use Rattle.strike_list.specs.declared.Lines.{Lines}
use Rattle.cure.specs.Curing.{Cures}
use Rattle.exports_cure.specs.Codes as codes
use Rattle.exports_cure.specs.Codes.{coded}

-- WHICH LINES TO STRIKE, with the work area and the cells after it
pub record Advised (text list work : List ℕ) (n : ℕ) (work' out' : List ℕ) : Type 0 where
  pub advice : Result (Option Lines) Refusal
  pub cures : Cures text list work advice work'
  pub number : n ≡ coded advice
  pub cells : out' ≡ codes.cells advice
