-- THE CONTRACT LEAVES NO FREEDOM: two calls over the same text, list and work area answer the same, and leave the same.
use mathlib.Core.Path.{◌≡◌, sym, ap, ◌∙◌}
use mathlib.Core.Logic.{inl, inr}
use mathlib.Core.List.{List}
use Prim.Native.Nat.{ℕ}
use Rattle.std.specs.Prelude.{Result, Ok, Err}
use Rattle.rows.specs.declared.Refusal.{Refusal}
use Rattle.rows.proofs.Laws.{refuses_one}
use Rattle.calls.specs.Crowding.{too_many}
use Rattle.semantics.specs.Models.{Program, Question}
use Rattle.grammar.specs.Texts.{Outcome, accepted, refused}
use Rattle.striking.proofs.Choices.{tally-one}
use Rattle.strike_calls.specs.Calls.{asked}
use Rattle.tally.specs.declared.Count.{Count}
use Rattle.tally.specs.Tallying.{Answers, Leaves, Tallies}

answers_one : (P : Program) (Q : Question) (L : List ℕ) (r r' : Result Count Refusal) → Answers P Q L r → Answers P Q L r' → r ≡ r'
answers_one P Q L r r' (inl a) (inl b) = refuses_one too_many 0 r r' a.1 b.1
answers_one P Q L r r' (inl a) (inr b) = absurd (b.0 a.0)
answers_one P Q L r r' (inr a) (inl b) = absurd (a.0 b.0)
answers_one P Q L (Ok x) (Ok y) (inr a) (inr b) =
    let e = tally-one P Q L x.reached x.unreached x.share x.remainder y.reached y.unreached y.share y.remainder a.1 b.1 in
    ap Ok (same x y e.0 e.1 e.2 e.3)
  where
    same : (s t : Count) → s.reached ≡ t.reached → s.unreached ≡ t.unreached → s.share ≡ t.share → s.remainder ≡ t.remainder → s ≡ t
    same s t p q u v =
        ap (λ (n : ℕ). record { reached = n; unreached = s.unreached; share = s.share; remainder = s.remainder }) p
        ∙ ap (λ (n : ℕ). record { reached = t.reached; unreached = n; share = s.share; remainder = s.remainder }) q
        ∙ ap (λ (n : ℕ). record { reached = t.reached; unreached = t.unreached; share = n; remainder = s.remainder }) u
        ∙ ap (λ (n : ℕ). record { reached = t.reached; unreached = t.unreached; share = t.share; remainder = n }) v
answers_one P Q L (Ok x) (Err y) (inr a) (inr b) = absurd b.1
answers_one P Q L (Err x) r' (inr a) (inr b) = absurd a.1

left-settled : (o : Outcome) (L work : List ℕ) (r r' : Result Count Refusal) (w w' : List ℕ) → Leaves o L work r w → Leaves o L work r' w' → (r ≡ r') × (w ≡ w')
left-settled (refused n l) L work r r' w w' g h = (refuses_one n l r r' g.0 h.0, g.1 ∙ sym h.1)
left-settled (accepted D P Q) L work r r' w w' g h = (answers_one P Q L r r' g.0 h.0, g.1 ∙ sym h.1)

pub settled : (text list work : List ℕ) (r r' : Result Count Refusal) (w w' : List ℕ) → Tallies text list work r w → Tallies text list work r' w' → (r ≡ r') × (w ≡ w')
settled text list work = left-settled (asked text list work) list work
