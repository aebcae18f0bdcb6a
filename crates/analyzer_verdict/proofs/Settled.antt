-- NO FREEDOM IS LEFT beside the run shown: the verdict, the states, their number and the work area are settled.
use mathlib.Core.Path.{◌≡◌, sym, ◌∙◌}
use mathlib.Core.List.{List}
use Prim.Native.Nat.{ℕ}
use lib.ListN.{length}
use Rattle.limits.specs.Limits as limit
use Rattle.semantics.specs.Models.{Program, Question}
use Rattle.search_states.proofs.Listed.{states-settled}
use Rattle.analyzer_verdict.specs.declared.Answer.{Answer}
use Rattle.analyzer_verdict.specs.declared.Answer.TheVariants.{Reached, Unreached, Refused}
use Rattle.analyzer_verdict.specs.declared.Analysis.{Analysis}
use Rattle.analyzer_verdict.specs.Judging.{Answered, Beside, Judges}

-- THE ANSWER and the run table: two answers agree, but for the run shown
abbrev pub Agree : Answer → List ℕ → Answer → List ℕ → Type 0
Agree (Reached n place) run (Reached k other) run' = Unit {0}
Agree Unreached run Unreached run' = run ≡ run'
Agree (Refused n l) run (Refused k i) run' = (n ≡ k) × (l ≡ i) × (run ≡ run')
Agree (Reached n place) run Unreached run' = ⊥
Agree (Reached n place) run (Refused k i) run' = ⊥
Agree Unreached run (Reached k other) run' = ⊥
Agree Unreached run (Refused k i) run' = ⊥
Agree (Refused n l) run (Reached k other) run' = ⊥
Agree (Refused n l) run Unreached run' = ⊥

answer-settled : (P : Program) (Q : Question) (run r r' : List ℕ) (a b : Answer) → Answered P Q run r a → Answered P Q run r' b → Agree a r b r'
answer-settled P Q run r r' (Reached n place) (Reached k other) g h = tt
answer-settled P Q run r r' (Reached n place) Unreached g h = h.1 g.1
answer-settled P Q run r r' (Reached n place) (Refused k i) g h = g.0 h.0
answer-settled P Q run r r' Unreached (Reached k other) g h = g.1 h.1
answer-settled P Q run r r' Unreached Unreached g h = g.2 ∙ sym h.2
answer-settled P Q run r r' Unreached (Refused k i) g h = g.0 h.0
answer-settled P Q run r r' (Refused n l) (Reached k other) g h = h.0 g.0
answer-settled P Q run r r' (Refused n l) Unreached g h = h.0 g.0
answer-settled P Q run r r' (Refused n l) (Refused k i) g h = (g.1 ∙ sym h.1, g.2 ∙ sym h.2, g.3 ∙ sym h.3)

-- what stands beside two answers that agree
beside-settled : (P : Program) (s t : List ℕ) (n k : ℕ) (run run' : List ℕ) (a b : Answer) → length s ≡ limit.listed → length t ≡ limit.listed → Agree a run b run' → Beside P s n a → Beside P t k b
    → (s ≡ t) × (n ≡ k)
beside-settled P s t n k run run' (Reached i place) (Reached j other) p q e g h = states-settled P s t n k p q g h
beside-settled P s t n k run run' Unreached Unreached p q e g h = states-settled P s t n k p q g h
beside-settled P s t n k run run' (Refused i l) (Refused j o) p q e g h = (g.0 ∙ sym h.0, g.1 ∙ sym h.1)
beside-settled P s t n k run run' (Reached i place) Unreached p q e g h = absurd e
beside-settled P s t n k run run' (Reached i place) (Refused j o) p q e g h = absurd e
beside-settled P s t n k run run' Unreached (Reached j other) p q e g h = absurd e
beside-settled P s t n k run run' Unreached (Refused j o) p q e g h = absurd e
beside-settled P s t n k run run' (Refused i l) (Reached j other) p q e g h = absurd e
beside-settled P s t n k run run' (Refused i l) Unreached p q e g h = absurd e

-- THE WHOLE, with the work area
abbrev pub Same : Analysis → List ℕ → List ℕ → Analysis → List ℕ → List ℕ → Type 0
Same a work run b work' run' = Agree a.answer run b.answer run' × (a.states ≡ b.states) × (a.count ≡ b.count) × (work ≡ work')

pub settled : (P : Program) (Q : Question) (work run : List ℕ) (a b : Analysis) (w w' r r' : List ℕ) → length a.states ≡ limit.listed → length b.states ≡ limit.listed
    → Judges P Q work run a w r → Judges P Q work run b w' r' → Same a w r b w' r'
settled P Q work run a b w w' r r' p q g h =
    let e = answer-settled P Q run r r' a.answer b.answer g.verdict h.verdict in
    let s = beside-settled P a.states b.states a.count b.count r r' a.answer b.answer p q e g.states h.states in
    (e, s.0, s.1, g.area ∙ sym h.area)
