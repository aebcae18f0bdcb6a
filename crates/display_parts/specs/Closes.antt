-- WHETHER WHAT IS READ ENDS WITH THE LINE.
use Rattle.std.specs.Prelude.{◌≡◌, Bool, true, false, List, [], ℕ, ◌<◌, length, drop, Option, Some, None}
use Rattle.std.proofs.Math.Option.{some}
use Rattle.limits.specs.Limits as limit
use Rattle.grammar.specs.Shapes.{Read, rest, literal}
use Rattle.display_shapes.specs.declared.Span.{Span}
use Rattle.display_parts.specs.declared.Part.{Part}

abbrev pub Closes : {A : Type 0} → (List ℕ → Read A) → List ℕ → ℕ → Bool → Type 0
Closes {A} read line at true = (x : A) × (at < length line) × (read (drop at line) ≡ some (x, []))
Closes {A} read line at false = (x : A) → read (drop at line) ≡ some (x, []) → ⊥

-- the clause with those places, if the literals of its body end the line
abbrev pub Ended : List ℕ → Option Span → ℕ → ℕ → Option Part → Type 0
Ended line head from body None = Closes (rest literal limit.body) line body false
Ended line head from body (Some p) = Closes (rest literal limit.body) line body true × (p ≡ record { head = head; from = from; body = body; end = length line })
