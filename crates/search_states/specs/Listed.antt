-- THE REACHABLE STATES as an answer lists them: "the reachable atomic states and their number, in the listing's order"; the empty one, number 0, "comes first"; the numbers behind them are zero.
use Rattle.std.specs.Prelude.{◌≡◌, ◌↔◌, true, List, ℕ, ◌-◌, ◌≤◌, take, drop, replicate}
use Rattle.limits.specs.Limits as limit
use Rattle.semantics.specs.Models.{elem, Program}
use Rattle.semantics.specs.Steps.{Reachable}
use Rattle.search_states.specs.Rising.{Rising}

pub record Listed (P : Program) (states : List ℕ) (n : ℕ) : Type 0 where
  pub count : n ≤ limit.listed
  pub rising : Rising states n
  pub reachable : (s : ℕ) → Reachable P s ↔ (elem s (take n states) ≡ true)
  pub rest : drop n states ≡ replicate (limit.listed - n) 0
