-- VARIABLES IN ORDER OF FIRST APPEARANCE.
use Rattle.std.specs.Prelude.{◌≡◌, false, List, [], ◌∷◌, ◌++◌, ℕ, ◌+◌, ◌-◌, ◌≤◌, ◌<◌, length, drop, slice_index}
use Rattle.std.proofs.Math.Seq.{slice}
use Rattle.grammar.specs.Bytes.{Word}
use Rattle.grammar.specs.Declarations.{member, extend}
use Rattle.display_parts.specs.Placed.{behind, spaced, leading, Heads}
use Rattle.display_parts.specs.declared.Part.{Part}

-- the name behind byte i, if that is a space
unfoldable pub behind_at : List ℕ → ℕ → List Word
behind_at line i = behind (slice_index line i) (drop (i + 1) line)

-- the names of a part that stand behind the spaces before byte i
unfoldable pub before : List ℕ → Part → ℕ → List Word
before line p i = leading line p ++ spaced (i - p.from) (drop p.from line)

-- the places of a part stand in the line
pub record Within (line : List ℕ) (p : Part) : Type 0 where
  pub head : Heads line p.head
  pub from : p.from ≤ p.end
  pub end : p.end ≤ length line

-- the name behind byte i ends at e
pub record BehindEnd (line : List ℕ) (i e : ℕ) : Type 0 where
  pub begins : i + 1 < e
  pub ends : e ≤ length line
  pub read : behind_at line i ≡ slice (i + 1) e line ∷ []

-- no name stands behind byte i, or one of those before
abbrev pub IsStale : List ℕ → Part → ℕ → Type 0
IsStale line p i = extend (extend [] (before line p i)) (behind_at line i) ≡ extend [] (before line p i)

-- the name behind byte i ends at e and is none of those before
pub record FreshEnd (line : List ℕ) (p : Part) (i e : ℕ) : Type 0 where
  pub behind : BehindEnd line i e
  pub fresh : member (slice (i + 1) e line) (before line p i) ≡ false
