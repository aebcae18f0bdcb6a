-- NO FREEDOM IS LEFT beside the run shown: the verdict, the states, their number and the work area are settled.
use mathlib.Core.Path.{◌≡◌, refl, sym, ◌∙◌, subst}
use mathlib.Core.Logic.{inl, inr}
use mathlib.Core.List.{List, [], ◌∷◌}
use Prim.Native.Nat.{ℕ, ◌<◌}
use lib.ListN.{length, get_or}
use Rattle.limits.specs.Limits as limit
use Rattle.semantics.specs.Models.{Program, Question, names}
use Rattle.semantics.specs.Facts.{Database}
use Rattle.semantics.specs.Runs.{Session, start}
use Rattle.analyzer_verdict.specs.declared.Answer.{Answer}
use Rattle.analyzer_verdict.specs.declared.Answer.TheVariants.{Reached, Unreached, Refused}
use Rattle.analyzer_verdict.specs.declared.Analysis.{Analysis}
use Rattle.calls.specs.Crowding.{Crowded, too_many}
use Rattle.search_states.proofs.Listed.{states-settled}
use Rattle.analyzer_verdict.proofs.Settled.{Agree, Same}
use Rattle.from_here_verdict.specs.From.{Answered, Refuses, OrElse, Asked, Put, Judges}
use Rattle.from_here_verdict.proofs.Laws.{leads-once}

-- two verdicts agree, but for the run shown
verdicts : (P : Program) (Q : Question) (D : Database) (x o : ℕ) (run r r' : List ℕ) (a b : Answer) → Answered P Q D x o run r a → Answered P Q D x o run r' b → Agree a r b r'
verdicts P Q D x o run r r' (Reached n place) (Reached k other) g h = tt
verdicts P Q D x o run r r' (Reached n place) Unreached g h = h.0 g.0
verdicts P Q D x o run r r' Unreached (Reached k other) g h = g.0 h.0
verdicts P Q D x o run r r' Unreached Unreached g h = g.1 ∙ sym h.1
verdicts P Q D x o run r r' (Refused n l) b g h = absurd g
verdicts P Q D x o run r r' (Reached n place) (Refused k i) g h = absurd h
verdicts P Q D x o run r r' Unreached (Refused k i) g h = absurd h

module _ (run : List ℕ) (a b : Analysis) (r r' : List ℕ) where
  -- two answers agree, with what stands beside them
  abbrev Alike : Type 0
  Alike = Agree a.answer r b.answer r' × (a.states ≡ b.states) × (a.count ≡ b.count)

  refusals : (n : ℕ) → Refuses run a r n → Refuses run b r' n → Alike
  refusals n g h = rw (g.0, h.0) ((refl, refl, g.1 ∙ sym h.1), refl, refl)

  or_else : (A B C : Type 0) (n : ℕ) → (B → C → Alike) → OrElse run a r A n B → OrElse run b r' A n C → Alike
  or_else A B C n next (inl g) (inl h) = refusals n g.1 h.1
  or_else A B C n next (inl g) (inr h) = absurd (h.0 g.0)
  or_else A B C n next (inr g) (inl h) = absurd (g.0 h.0)
  or_else A B C n next (inr g) (inr h) = next g.1 h.1

  module _ (P : Program) (Q : Question) (long : length a.states ≡ limit.listed) (too : length b.states ≡ limit.listed) where
    answers : (D : Database) (o : ℕ) (xs : List ℕ) → Asked run a r P Q D o xs → Asked run b r' P Q D o xs → Alike
    answers D o [] g h = refusals 17 g h
    answers D o (x ∷ xs) g h = or_else (limit.earlier < length D) _ _ 18 (or_else (Crowded P) _ _ too_many (λ v w.
        let s = states-settled P a.states b.states a.count b.count long too v.1 w.1 in
        (verdicts P Q D x o run r r' a.answer b.answer v.0 w.0, s.0, s.1))) g h

    pointed : (ns : List ℕ) (o : ℕ) → Put run a r P Q ns o → Put run b r' P Q ns o → Alike
    pointed ns o (inl g) (inl h) = refusals 16 g.1 h.1
    pointed ns o (inl g) (inr (t, l, there, h)) = absurd (g.0 t l there)
    pointed ns o (inr (t, l, there, g)) (inl h) = absurd (h.0 t l there)
    pointed ns o (inr (t, l, there, g)) (inr (u, k, also, h)) =
        let same : u ≡ t = leads-once P Q (start []) u t ns (length ns) k l in
        answers t.db o (names (get_or Q 0 [])) g (subst (λ (y : Session). Asked run b r' P Q y.db o (names (get_or Q 0 []))) same h)

-- THE WHOLE, with the work area
pub settled : (P : Program) (Q : Question) (ns : List ℕ) (o : ℕ) (work run : List ℕ) (a b : Analysis) (w w' r r' : List ℕ) → length a.states ≡ limit.listed → length b.states ≡ limit.listed
    → Judges P Q ns o work run a w r → Judges P Q ns o work run b w' r' → Same a w r b w' r'
settled P Q ns o work run a b w w' r r' p q g h =
    let s = pointed run a b r r' P Q p q ns o g.answer h.answer in
    (s.0, s.1, s.2, g.area ∙ sym h.area)
