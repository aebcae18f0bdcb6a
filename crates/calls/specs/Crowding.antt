-- REFUSAL 15 (document 02, R-6), which a call gives that needs all the reachable states.
use Rattle.std.specs.Prelude.{ℕ}
use Rattle.limits.specs.Limits as limit
use Rattle.semantics.specs.Models.{Program}
use Rattle.semantics.specs.Steps.{MoreThan}

-- TOO MANY STATES: "more than 127 non-empty states are reachable"
abbrev pub Crowded : Program → Type 0
Crowded P = MoreThan limit.atomic P

-- "15 with line 0 .. exactly if" there are
abbrev pub too_many : ℕ
too_many = 15
