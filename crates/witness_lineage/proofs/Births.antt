-- Which of the found states a `new` line made, state by state.
use mathlib.Core.Path.{◌≡◌}
use mathlib.Core.Bool.{Bool, false}
use mathlib.Core.List.{List}
use Prim.Native.Nat.{ℕ, ◌<◌}
use lib.ListN.{length, get_or}
use Rattle.limits.specs.Limits as limit
use Rattle.semantics.specs.Models.{line}
use Rattle.model.specs.declared.Model.{Model}
use Rattle.model.specs.Records.{program_of}
use Rattle.search_states.specs.declared.States.{States}
use Rattle.search_states.specs.States.{by}
use Rattle.witness_lineage.specs.Lineage.{is_new}

-- THE STATES BELOW k are looked at
abbrev pub Early : Model → States → ℕ → List Bool → Type 0
Early m s k born = (length born ≡ limit.atomic) × ((i : ℕ) → i < k → get_or born i false ≡ is_new (line (program_of m) (by s i)))
