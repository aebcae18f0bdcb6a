-- THE CONTRACT LEAVES NO FREEDOM but the run shown: two analyses of one text over the same buffers are the same.
use mathlib.Core.Path.{◌≡◌, refl, sym, ◌∙◌}
use mathlib.Core.Bool.{false}
use mathlib.Core.List.{List}
use Prim.Native.Nat.{ℕ}
use lib.ListN.{length}
use Rattle.limits.specs.Limits as limit
use Rattle.grammar.specs.Texts.{Outcome, accepted, refused}
use Rattle.calls.specs.Calls.{called, short}
use Rattle.analyzer_verdict.specs.declared.Analysis.{Analysis}
use Rattle.analyzer_verdict.proofs.Settled as verdict
use Rattle.analyzer_verdict.proofs.Settled.{Same}
use Rattle.analyzer.specs.Analyzing.{Leaves, Analyzes}

left-settled : (o : Outcome) (work run : List ℕ) (a b : Analysis) (w w' r r' : List ℕ) → length a.states ≡ limit.listed → length b.states ≡ limit.listed
    → Leaves o work run a w r → Leaves o work run b w' r' → Same a w r b w' r'
left-settled (refused n l) work run a b w w' r r' p q g h = rw (g.0, h.0) ((refl, refl, g.2 ∙ sym h.2), refl, refl, g.1 ∙ sym h.1)
left-settled (accepted D P Q) work run a b w w' r r' p q g h = verdict.settled P Q work run a b w w' r r' p q g h

-- an array of the returned states has its length
pub settled : (text work run : List ℕ) (a b : Analysis) (w w' r r' : List ℕ) → length a.states ≡ limit.listed → length b.states ≡ limit.listed
    → Analyzes text work run a w r → Analyzes text work run b w' r' → Same a w r b w' r'
settled text work run = left-settled (called text (short (length work) (length run)) false) work run
