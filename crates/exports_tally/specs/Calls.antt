-- WHAT THE EXPORTED CALL ANSWERS: the whole contract of the public call, its answer as a number and its counts as cells.
use Rattle.std.specs.Prelude.{◌≡◌, List, ℕ, Result}
use Rattle.rows.specs.declared.Refusal.{Refusal}
use Rattle.tally.specs.declared.Count.{Count}
use Rattle.tally.specs.Tallying.{Tallies}
use Rattle.exports_tally.specs.Codes.{coded, counts}

-- HOW MUCH OF THE POLICY MATTERS, with the work area and the cells after it
pub record Counted (text list work : List ℕ) (n : ℕ) (work' out' : List ℕ) : Type 0 where
  pub count : Result Count Refusal
  pub tallies : Tallies text list work count work'
  pub number : n ≡ coded count
  pub cells : out' ≡ counts count
