-- What is kept of items that are read one after the other.
use Rattle.std.specs.Prelude.{◌≡◌, List, [], ◌∷◌, ◌++◌, ℕ, ◌+◌, ◌≤◌, ◌<◌, length, drop}
use Rattle.std.proofs.Math.Option.{some}
use Rattle.grammar.specs.Shapes.{Read, rest, bracket}
use Rattle.text_rows.specs.declared.Taken.{Taken}

-- `held c xs s` says that s holds the items xs, in the case c
module _ {V C K : Type 0} where
  -- r holds what s holds and the items more
  abbrev pub Extends : (C → List V → K → Type 0) → K → List V → K → Type 0
  Extends held s more r = (c : C) (xs : List V) → held c xs s → held c (xs ++ more) r

  -- s holds some items, and n more are at most `most`
  abbrev pub Room : (C → List V → K → Type 0) → ℕ → ℕ → K → Type 0
  Room held most n s = (c : C) × (xs : List V) × (length xs + n ≤ most) × held c xs s

  -- one item, added to s
  pub record ItemEnd (read : List ℕ → Read V) (held : C → List V → K → Type 0) (text : List ℕ) (at : ℕ) (s : K) (r : Taken K) : Type 0 where
    pub value : V
    pub begins : at < r.end
    pub ends : r.end ≤ length text
    pub found : read (drop at text) ≡ some (value, drop r.end text)
    pub holds : Extends held s (value ∷ []) r.kept

  -- at most n items up to the closing bracket, added to s
  pub record RowEnd (read : List ℕ → Read V) (held : C → List V → K → Type 0) (text : List ℕ) (at n : ℕ) (s : K) (r : Taken K) : Type 0 where
    pub more : List V
    pub few : length more ≤ n
    pub begins : at < r.end
    pub ends : r.end ≤ length text
    pub found : rest read n (drop at text) ≡ some (more, drop r.end text)
    pub holds : Extends held s more r.kept

  -- a bracket of 1 to n + 1 items, added to s
  pub record BracketEnd (read : List ℕ → Read V) (held : C → List V → K → Type 0) (text : List ℕ) (at n : ℕ) (s : K) (r : Taken K) : Type 0 where
    pub items : List V
    pub begins : at < r.end
    pub ends : r.end ≤ length text
    pub found : bracket read n (drop at text) ≡ some (items, drop r.end text)
    pub holds : Extends held s items r.kept
