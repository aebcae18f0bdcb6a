-- WHAT IS SHOWN of a text and of its lines: the declared relations; the literals and the variables of a part of a line.
use Rattle.std.specs.Prelude.{◌≡◌, List, [], ◌++◌, ℕ, ◌+◌, ◌≤◌, length}
use Rattle.std.specs.Prelude as std
use Rattle.std.specs.Prelude.{Some, None}
use Rattle.std.proofs.Math.Option.{Option, none, some}
use Rattle.std.proofs.Math.Seq.{slice}
use Rattle.grammar.specs.Bytes.{Word}
use Rattle.grammar.specs.Forms.{print_literal}
use Rattle.grammar.specs.Shapes.{◌>>=◌}
use Rattle.grammar.specs.Declarations.{extend, variables}
use Rattle.grammar.specs.Texts.{Outcome, accepted, refused}
use Rattle.display_shapes.specs.Rows.{pick}
use Rattle.display_parts.specs.Parts.{part_of}
use Rattle.display.specs.declared.Declaration.{Declaration}

-- declared relation i of an accepted text, from 0: its name and its code
abbrev pub relation_at : Outcome → ℕ → Option (Word × ℕ)
relation_at (accepted D P Q) i = pick D i
relation_at (refused n l) i = none

-- a declared relation is found, if there is one: the name stands in the text, and the code is the relation's
abbrev pub FindsRelation : List ℕ → Option (Word × ℕ) → std.Option Declaration → Type 0
FindsRelation text none None = Unit {0}
FindsRelation text none (Some r) = ⊥
FindsRelation text (some d) None = ⊥
FindsRelation text (some d) (Some r) = (r.from + r.size ≤ length text) × (slice r.from (r.from + r.size) text ≡ d.0) × (r.code ≡ d.1)

-- literal k of part n of a line, from 0, as it is printed
abbrev pub literal_at : List ℕ → ℕ → ℕ → Option (List ℕ)
literal_at line n k = part_of line n >>= λ p. pick p.1 k >>= λ l. some (print_literal l)

-- variable j of part n of a line, from 0, "in order of first appearance"
abbrev pub variable_at : List ℕ → ℕ → ℕ → Option Word
variable_at line n j = part_of line n >>= λ p. pick (extend [] (p.0 ++ variables p.1)) j
