-- ITEMS IN A ROW: each after one byte, up to the closing bracket.
use Rattle.std.specs.Prelude as std
use Rattle.std.specs.Prelude.{◌≡◌, Some, None, List, [], ◌∷◌, ℕ, zero, suc, ◌+◌, ◌≤◌, ◌<◌, length, drop}
use Rattle.std.proofs.Math.Option.{Option, none, some}
use Rattle.std.proofs.Math.Seq.{slice}
use Rattle.grammar.specs.Bytes.{bytes}
use Rattle.grammar.specs.Shapes.{Read, after}
use Rattle.display_shapes.specs.Ends.{EndsAt}
use Rattle.display_shapes.specs.declared.Span.{Span}

-- item k of a list, from 0
abbrev pub pick : {A : Type 0} → List A → ℕ → Option A
pick [] k = none
pick (x ∷ xs) zero = some x
pick (x ∷ xs) (suc k) = pick xs k

-- the bytes begin with these items, each after one byte that is no closing bracket, and the closing bracket
abbrev pub Row : {A : Type 0} → (List ℕ → Read A) → List ℕ → List A → Type 0
Row read s [] = (t : List ℕ) × (after (bytes ")") s ≡ some t)
Row read s (x ∷ xs) = (c : ℕ) × (t : List ℕ) × (u : List ℕ) × (s ≡ c ∷ t) × (after (bytes ")") s ≡ none) × (read t ≡ some (x, u)) × Row read u xs

-- the item behind byte i, if that byte does not close the row
pub record BehindAt {A : Type 0} (read : List ℕ → Read A) (text : List ℕ) (i : ℕ) (r : Span) : Type 0 where
  pub inside : i < length text
  pub open_ : after (bytes ")") (drop i text) ≡ none
  pub begins : r.from ≡ i + 1
  pub item : EndsAt read text (i + 1) r.to

abbrev pub Behind : {A : Type 0} → (List ℕ → Read A) → List ℕ → ℕ → std.Option Span → Type 0
Behind {A} read text i None = (xs : List A) → Row read (drop i text) xs → xs ≡ []
Behind read text i (Some r) = BehindAt read text i r

-- the item is read from `from` to `to`, if there is one
abbrev pub Stands : {A : Type 0} → (List ℕ → Read A) → List ℕ → Option A → std.Option Span → Type 0
Stands read text none None = Unit {0}
Stands read text none (Some r) = ⊥
Stands read text (some x) None = ⊥
Stands read text (some x) (Some r) = (r.from < r.to) × (r.to ≤ length text) × (read (drop r.from text) ≡ some (x, drop r.to text))

-- item k of the row that is next
abbrev pub Picked : {A : Type 0} → (List ℕ → Read A) → List ℕ → ℕ → ℕ → std.Option Span → Type 0
Picked {A} read text at k r = (xs : List A) → Row read (drop at text) xs → Stands read text (pick xs k) r

-- the bytes w stand in the line, if there is something to show
abbrev pub Shown : List ℕ → Option (List ℕ) → std.Option Span → Type 0
Shown line none None = Unit {0}
Shown line none (Some r) = ⊥
Shown line (some w) None = ⊥
Shown line (some w) (Some r) = (r.from < r.to) × (r.to ≤ length line) × (slice r.from r.to line ≡ w)
