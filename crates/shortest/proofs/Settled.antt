-- THE CONTRACT LEAVES NO FREEDOM but the row of lines shown: two answers to one text and two states over the same buffers are the same.
use mathlib.Core.Path.{◌≡◌, sym, ◌∙◌}
use mathlib.Core.Bool.{false}
use mathlib.Core.List.{List}
use Prim.Native.Nat.{ℕ}
use lib.ListN.{length}
use Rattle.std.specs.Prelude.{Option, Result}
use Rattle.rows.specs.declared.Refusal.{Refusal}
use Rattle.rows.proofs.Laws.{refuses_one}
use Rattle.grammar.specs.Texts.{Outcome, accepted, refused}
use Rattle.calls.specs.Calls.{called, short}
use Rattle.shortest_answer.proofs.Settled as answer
use Rattle.shortest.specs.Ways.{Leaves, Asks}

left-settled : (o : Outcome) (s t : ℕ) (work run : List ℕ) (a b : Result (Option ℕ) Refusal) (w w' r r' : List ℕ) → Leaves o s t work run a w r → Leaves o s t work run b w' r' → (a ≡ b) × (w ≡ w')
left-settled (refused n l) s t work run a b w w' r r' g h = (refuses_one n l a b g.0 h.0, g.1 ∙ sym h.1)
left-settled (accepted D P Q) s t work run a b w w' r r' g h = answer.settled P s t work run a b w w' r r' g h

pub settled : (text : List ℕ) (s t : ℕ) (work run : List ℕ) (a b : Result (Option ℕ) Refusal) (w w' r r' : List ℕ) → Asks text s t work run a w r → Asks text s t work run b w' r' → (a ≡ b) × (w ≡ w')
settled text s t work run = left-settled (called text (short (length work) (length run)) false) s t work run
