-- THE MOVES OF A SIDE between the found states and the empty one.
-- S is the row of found states. A slot is a place in it, and the slot behind the last one stands for the empty state, which `state` gives there.
use Rattle.std.specs.Prelude.{◌≡◌, true, List, ℕ, ◌≤◌, ◌<◌, length}
use Rattle.semantics.specs.Labels.{relabel}
use Rattle.semantics.specs.Models.{elem, Program, line}
use Rattle.semantics.specs.Facts.{Database, state}
use Rattle.semantics.specs.Tables.{seat}
use Rattle.semantics.specs.Walkers.{Takes}
use Rattle.model.specs.declared.Action.{Action}
use Rattle.model.specs.declared.Action.TheVariants.{Rule, New, Next}
use Rattle.model.specs.declared.Model.{Model}
use Rattle.model.specs.Records.{clause_at}
use Rattle.facts_bits.specs.Bits.{in_row}

-- one of the lines takes an object of the state of slot e to that of slot t
abbrev pub Own : Program → Database → List ℕ → ℕ → ℕ → Type 0
Own P S ls e t = (e < length S) × (t ≤ length S) × ((ℓ : ℕ) × (elem ℓ ls ≡ true) × Takes P S (state S e) (state S t) (line P ℓ))

-- row i of the table of moves has slot e, and what the clause makes of its state has its place at t
abbrev pub Goes : List ℕ → ℕ → Database → Action → ℕ → ℕ → Type 0
Goes table i S (Rule r n) e t = ⊥
Goes table i S (New u) e t = ⊥
Goes table i S (Next plus minus) e t = (e < length S) × (in_row table i e ≡ true) × (t ≡ seat (relabel (state S e) plus minus) S)

-- so by a clause below i that stands on one of the lines
abbrev pub OwnBelow : Model → List ℕ → Database → List ℕ → ℕ → ℕ → ℕ → Type 0
OwnBelow m table S ls i e t = (k : ℕ) × (k < i) × (elem (clause_at m k).line ls ≡ true) × Goes table k S (clause_at m k).action e t
