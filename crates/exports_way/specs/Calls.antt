-- WHAT THE EXPORTED CALL ANSWERS: the whole contract of the public call, its answer as a number.
use Rattle.std.specs.Prelude.{◌≡◌, List, ℕ, Option, Result}
use Rattle.rows.specs.declared.Refusal.{Refusal}
use Rattle.shortest.specs.Ways.{Asks}
use Rattle.exports_way.specs.Codes.{coded}

-- THE SHORTEST WAY, with the work area and the run table after it
pub record Looks (text : List ℕ) (s t : ℕ) (work run : List ℕ) (n : ℕ) (work' run' : List ℕ) : Type 0 where
  pub answer : Result (Option ℕ) Refusal
  pub asks : Asks text s t work run answer work' run'
  pub number : n ≡ coded answer
