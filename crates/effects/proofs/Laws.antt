-- What a clause makes is what its line makes.
use mathlib.Core.Path.{◌≡◌, refl, sym, ap, ◌∙◌, subst}
use mathlib.Core.List.{List}
use mathlib.Core.Logic.{◌≢◌}
use Prim.Native.Nat.{ℕ, ◌<◌}
use native.Mathlib.Omega.{arith}
use Rattle.std.specs.Prelude.{Option, Some, None, Result, Ok, Err, MatchOption, MatchResult}
use Rattle.rows.specs.declared.Refusal.{Refusal}
use Rattle.semantics.specs.Models.{Body, Line, line}
use Rattle.model.specs.declared.Action.{Action}
use Rattle.model.specs.declared.Action.TheVariants.{Rule, New, Next}
use Rattle.model.specs.declared.Clause.{Clause}
use Rattle.model.specs.declared.Model.{Model}
use Rattle.model.specs.Lookups.{OnLine}
use Rattle.model.specs.Records.{clause_body, line_of, clause_at, program_of}
use Rattle.model.specs.WellFormed.{WellFormed}
use Rattle.model.proofs.Lines.{line-clause, line_other}
use Rattle.grammar.specs.Texts.{outcome}
use Rattle.text.specs.Reading.{Reads}
use Rattle.text.proofs.Laws.{read-well-formed}
use Rattle.effects.specs.Effects.{made, action_made, effect_at}

same-made : (a : Action) (b : Body) (s : ℕ) → made (line_of a b) s ≡ action_made a s
same-made (Rule r n) b s = refl
same-made (New t) b s = refl
same-made (Next plus minus) b s = refl

module _ (m : Model) (wf : WellFormed m) (ℓ s : ℕ) where
  clause-made : (i : ℕ) → i < m.clausecount → (clause_at m i).line ≡ ℓ → action_made (clause_at m i).action s ≡ made (line (program_of m) ℓ) s
  clause-made i h e =
      sym (same-made (clause_at m i).action (clause_body m.literals (clause_at m i)) s)
      ∙ ap (λ (l : Line). made l s) (sym (line-clause m (let a = wf.clauses in let b = wf.row in omega arith) wf.rising i h) ∙ ap (line (program_of m)) e)

  none_made : ((k : ℕ) → k < m.clausecount → (clause_at m k).line ≢ ℓ) → 0 ≡ made (line (program_of m) ℓ) s
  none_made absent = ap (λ (l : Line). made l s) (sym (line_other m ℓ absent))

-- the line, by the clause that is found on it
pub found-made : (m : Model) → WellFormed m → (ℓ s : ℕ) (o : Option Clause) (r : ℕ) (Told : Clause → Type 0) → OnLine m ℓ o → MatchOption o (r ≡ 0) Told → ((c : Clause) → Told c → r ≡ action_made c.action s) → r ≡ made (line (program_of m) ℓ) s
found-made m wf ℓ s None r Told h e says = e ∙ none_made m wf ℓ s h
found-made m wf ℓ s (Some c) r Told (k, here, is, on) e says =
    says c e
    ∙ ap (λ (d : Clause). action_made d.action s) is
    ∙ clause-made m wf ℓ s k here (ap (λ (d : Clause). d.line) (sym is) ∙ on)

-- a model that was read is well-formed
pub read-one : (text : List ℕ) (o : Result Model Refusal) (m : Model) → Reads (outcome text) text o → o ≡ Ok m → WellFormed m
read-one text o m h e = read-well-formed text m (subst (Reads (outcome text) text) e h)

-- the answer to a text, by how it is read
pub answered : (text : List ℕ) (ℓ s : ℕ) (o : Result Model Refusal) (r : ℕ) (Told : Model → Type 0) → Reads (outcome text) text o → MatchResult o Told (λ _. r ≡ 0) → ((m : Model) → Told m → r ≡ made (line (program_of m) ℓ) s) → r ≡ effect_at (outcome text) ℓ s
unfolding effect_at
answered text ℓ s (Ok m) r Told h e says = rw h.says (says m e)
answered text ℓ s (Err x) r Told h e says = rw h e
