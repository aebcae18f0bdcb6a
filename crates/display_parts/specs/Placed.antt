-- WHERE A PART OF A LINE STANDS.
use Rattle.std.specs.Prelude as std
use Rattle.std.specs.Prelude.{◌≡◌, Some, None, if◌then◌else◌, List, [], ◌∷◌, ◌++◌, ℕ, zero, suc, ◌-◌, ◌≤◌, ◌<◌, ◌==◌, length, drop}
use Rattle.std.proofs.Math.Option.{Option, none, some}
use Rattle.std.proofs.Math.Seq.{slice}
use Rattle.grammar.specs.Bytes.{Word}
use Rattle.grammar.specs.Forms.{Literal}
use Rattle.grammar.specs.Shapes.{Read, name, literal}
use Rattle.grammar.specs.Declarations.{variables}
use Rattle.display_shapes.specs.Rows.{Row}
use Rattle.display_parts.specs.Parts as parts
use Rattle.display_shapes.specs.declared.Span.{Span}
use Rattle.display_parts.specs.declared.Part.{Part}

-- the name that is read, if there is one
abbrev pub named : Read Word → List Word
named none = []
named (some r) = r.0 ∷ []

-- the name behind a space
abbrev pub behind : ℕ → List ℕ → List Word
behind b s = if b == 32 then named (name s) else []

-- the names behind the spaces that are among the first n bytes
abbrev pub spaced : ℕ → List ℕ → List Word
spaced zero s = []
spaced (suc n) [] = []
spaced (suc n) (b ∷ s) = behind b s ++ spaced n s

-- a `next` line's own variable, which the record gives by itself
abbrev pub heading : List ℕ → std.Option Span → List Word
heading line None = []
heading line (Some h) = slice h.from h.to line ∷ []

abbrev pub leading : List ℕ → Part → List Word
leading line p = heading line p.head

-- it stands in the line
abbrev pub Heads : List ℕ → std.Option Span → Type 0
Heads line None = Unit {0}
Heads line (Some h) = (h.from < h.to) × (h.to ≤ length line)

-- the record gives the part with the variables hs before its body b
pub record Placed (line : List ℕ) (p : Part) (hs : List Word) (b : List Literal) : Type 0 where
  pub head : Heads line p.head
  pub from : p.from ≤ p.end
  pub body : p.body ≤ length line
  pub end : p.end ≤ length line
  pub row : Row literal (drop p.body line) b
  pub words : leading line p ++ spaced (p.end - p.from) (drop p.from line) ≡ hs ++ variables b

-- the record gives the part, if there is one
abbrev pub Gives : List ℕ → Option parts.Part → std.Option Part → Type 0
Gives line none None = Unit {0}
Gives line none (Some p) = ⊥
Gives line (some q) None = ⊥
Gives line (some q) (Some p) = Placed line p q.0 q.1
