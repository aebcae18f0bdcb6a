use mathlib.Core.Path.{◌≡◌}
use mathlib.Core.Bool.{true}
use mathlib.Core.List.{List}
use Prim.Native.Nat.{ℕ}
use lib.ListN.{length, replicate}
use Rattle.facts_bits.specs.Width as width
use Rattle.facts_bits.specs.Bits.{bit_at}
use Rattle.search_ways.specs.Moves.{Marks, With, InRow}
use Rattle.search_levels.specs.declared.Meeting.{Meeting}
use Rattle.search_levels.specs.Passing.{Met, Over}
use Rattle.search_levels.proofs.fitting.Given as goal

-- the row has slot e, and the stage holds with it
abbrev pub Fitting : List ℕ → List ℕ → List ℕ → Meeting → ℕ → List ℕ → ℕ → Type 0
Fitting S work body t f row e = (bit_at row e ≡ true) × Met S work body t e f

abbrev pub invariant-loop-e : goal.invariant-loop-e
invariant-loop-e l = (l.e-iterator.row ≡ l.fn.row) × (length l.out ≡ width.bytes) × Over l.work (length l.slots) (λ S. Marks l.out (With (replicate width.bytes 0) (InRow 0 l.e-iterator.at (Fitting S l.work l.body l.t l.f l.fn.row))))
