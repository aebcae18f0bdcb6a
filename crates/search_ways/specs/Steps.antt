-- STEPS between the found states: which slot a move leads to. A slot is a place in the row S of found states; a move to the empty state leads to none.
use Rattle.std.specs.Prelude.{◌≡◌, ◌⊎◌, true, List, ℕ, ◌<◌, Option, MatchOption}
use Rattle.semantics.specs.Labels.{relabel}
use Rattle.semantics.specs.Models.{Program, line}
use Rattle.semantics.specs.Facts.{Database, state}
use Rattle.semantics.specs.Walkers.{Takes}
use Rattle.model.specs.declared.Action.{Action}
use Rattle.model.specs.declared.Action.TheVariants.{Rule, New, Next}
use Rattle.model.specs.declared.Model.{Model}
use Rattle.model.specs.Records.{clause_at}
use Rattle.facts_bits.specs.Bits.{in_row}

-- slots below n that are so related
abbrev pub Between : ℕ → (ℕ → ℕ → Type 0) → ℕ → ℕ → Type 0
Between n R e t = (e < n) × (t < n) × R e t

-- what a clause that is taken makes of an object of state s: it has state t then
abbrev pub Turns : Action → ℕ → ℕ → Type 0
Turns (Rule r n) s t = ⊥
Turns (New u) s t = ⊥
Turns (Next plus minus) s t = t ≡ relabel s plus minus

-- clause i can be taken from slot e by the table of moves, and makes of state s state t
abbrev pub Leads : Model → List ℕ → ℕ → ℕ → ℕ → ℕ → Type 0
Leads m table e s t i = (i < m.clausecount) × (in_row table i e ≡ true) × Turns (clause_at m i).action s t

-- the line of the first such clause, or that there is none
abbrev pub LineBetween : Model → List ℕ → ℕ → ℕ → ℕ → Option ℕ → Type 0
LineBetween m table e s t ℓ = MatchOption ℓ ((i : ℕ) → Leads m table e s t i → ⊥) (λ n. (i : ℕ) × Leads m table e s t i × ((k : ℕ) → k < i → Leads m table e s t k → ⊥) × (n ≡ (clause_at m i).line))

-- row i of the table of moves has slot e, and what the clause makes of its state is that of slot t
abbrev pub Led : List ℕ → ℕ → Database → Action → ℕ → ℕ → Type 0
Led table i S a e t = (in_row table i e ≡ true) × Turns a (state S e) (state S t)

-- ONE STEP AT MOST: the slots are the same, or some line takes an object of the one state to the other
abbrev pub OneStep : Program → Database → ℕ → ℕ → Type 0
OneStep P S e t = (e ≡ t) ⊎ ((ℓ : ℕ) × Takes P S (state S e) (state S t) (line P ℓ))
