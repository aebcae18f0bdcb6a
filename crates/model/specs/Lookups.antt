-- WHAT IS LOOKED UP in a model: the clause on a line, and a variable in a stage.
use Rattle.std.specs.Prelude.{◌≡◌, Option, None, Some, ◌≢◌, ℕ, ◌<◌}
use Rattle.model.specs.declared.Clause.{Clause}
use Rattle.model.specs.declared.Stage.{Stage}
use Rattle.model.specs.declared.Model.{Model}
use Rattle.model.specs.Records.{number_in, clause_at}

-- the clause is one of the model, and stands on the line; or none does
abbrev pub OnLine : Model → ℕ → Option Clause → Type 0
OnLine m ℓ (Some c) = (k : ℕ) × (k < m.clausecount) × (c ≡ clause_at m k) × (c.line ≡ ℓ)
OnLine m ℓ None = (k : ℕ) → k < m.clausecount → (clause_at m k).line ≢ ℓ

-- the stage's first variable of that number in the `ask` line, or that it has none
abbrev pub HasSeat : Stage → ℕ → Option ℕ → Type 0
HasSeat s v (Some x) = (x < s.variables) × (number_in s x ≡ v) × ((y : ℕ) → y < x → number_in s y ≢ v)
HasSeat s v None = (y : ℕ) → y < s.variables → number_in s y ≢ v
