-- A SHORTEST WAY between two slots, found in the matrix of single steps.
use Rattle.std.specs.Prelude.{◌≡◌, Bool, true, false, List, ℕ, zero, suc, ◌≤◌, ◌<◌, length, take, drop}
use Rattle.semantics.specs.Models.{Program}
use Rattle.semantics.specs.Facts.{Database, state}
use Rattle.semantics.specs.Walkers.{Way}
use Rattle.facts_bits.specs.Bits.{in_row}
use Rattle.search_ways.specs.Moves.{Marks}

-- the answer is whether A
abbrev pub Says : Bool → Type 0 → Type 0
Says true A = A
Says false A = A → ⊥

-- j marked pairs of the matrix w of n slots lead from e to t
abbrev pub Near : List ℕ → ℕ → ℕ → ℕ → ℕ → Type 0
Near w n zero e t = e ≡ t
Near w n (suc j) e t = (u : ℕ) × (u < n) × Near w n j e u × (in_row w u t ≡ true)

-- fewer than j do not
abbrev pub NotBefore : List ℕ → ℕ → ℕ → ℕ → ℕ → Type 0
NotBefore w n j e t = (i : ℕ) → i < j → Near w n i e t → ⊥

-- THE LAYERS up to j: row i has the slots to which i pairs lead from e
abbrev pub Layers : List ℕ → ℕ → ℕ → ℕ → ℕ → ℕ → Type 0
Layers w n e j i t = (i ≤ j) × Near w n i e t

-- slot u is in row j, and the matrix has the pair of u and t
abbrev pub Joins : List ℕ → List ℕ → ℕ → ℕ → ℕ → Type 0
Joins w layers j t u = (in_row layers j u ≡ true) × (in_row w u t ≡ true)

-- some slot below n is so
abbrev pub Joined : List ℕ → List ℕ → ℕ → ℕ → ℕ → Type 0
Joined w layers n j t = (u : ℕ) × (u < n) × Joins w layers j t u

-- j is the least number of pairs that lead from e to t, and the layers up to j are laid out
pub record Nearest (w : List ℕ) (n e t : ℕ) (layers : List ℕ) (j : ℕ) : Type 0 where
  pub few : j < n
  pub near : Near w n j e t
  pub least : NotBefore w n j e t
  pub rows : Marks layers (Layers w n e j)

-- A SHORTEST WAY from slot e to slot t: the first k numbers of the list are its lines, and the rest is as it was
pub record Shortest (P : Program) (S : Database) (e t : ℕ) (out out' : List ℕ) (k : ℕ) : Type 0 where
  pub few : k < length S
  pub way : Way P S (state S e) (take k out') (state S t)
  pub least : (ls : List ℕ) → Way P S (state S e) ls (state S t) → k ≤ length ls
  pub rest : drop k out' ≡ drop k out
