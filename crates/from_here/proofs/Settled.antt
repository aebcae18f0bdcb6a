-- THE CONTRACT LEAVES NO FREEDOM but the run shown: two answers to one question over the same buffers are the same.
use mathlib.Core.Path.{◌≡◌, refl, sym, ◌∙◌}
use mathlib.Core.List.{List}
use Prim.Native.Nat.{ℕ}
use lib.Dec.{ltb}
use lib.ListN.{length}
use Rattle.limits.specs.Limits as limit
use Rattle.grammar.specs.Texts.{Outcome, accepted, refused}
use Rattle.calls.specs.Calls.{called, short}
use Rattle.analyzer_verdict.specs.declared.Analysis.{Analysis}
use Rattle.analyzer_verdict.proofs.Settled.{Same}
use Rattle.from_here_verdict.proofs.Settled as verdict
use Rattle.from_here.specs.Asking.{Leaves, Asks}

left-settled : (c : Outcome) (ns : List ℕ) (o : ℕ) (work run : List ℕ) (a b : Analysis) (w w' r r' : List ℕ) → length a.states ≡ limit.listed → length b.states ≡ limit.listed
    → Leaves c ns o work run a w r → Leaves c ns o work run b w' r' → Same a w r b w' r'
left-settled (refused n l) ns o work run a b w w' r r' p q g h = rw (g.0, h.0) ((refl, refl, g.2 ∙ sym h.2), refl, refl, g.1 ∙ sym h.1)
left-settled (accepted D P Q) ns o work run a b w w' r r' p q g h = verdict.settled P Q ns o work run a b w w' r r' p q g h

-- an array of the returned states has its length
pub settled : (text ns : List ℕ) (o : ℕ) (work run : List ℕ) (a b : Analysis) (w w' r r' : List ℕ) → length a.states ≡ limit.listed → length b.states ≡ limit.listed
    → Asks text ns o work run a w r → Asks text ns o work run b w' r' → Same a w r b w' r'
settled text ns o work run = left-settled (called text (short (length work) (length run)) (ltb limit.run (length ns))) ns o work run
