-- The table of moves, clause by clause.
use mathlib.Core.Path.{◌≡◌, refl, sym, subst}
use mathlib.Core.Logic.{inl, inr, ⊎_elim, ◌≢◌, ◌↔◌}
use mathlib.Core.Bool.{true}
use mathlib.Core.List.{List}
use Prim.Native.Nat.{ℕ, ◌+◌, ◌<◌}
use native.Mathlib.Omega.{arith}
use lib.ListN.{length}
use Rattle.semantics.specs.Models.{Body, SafeLine}
use Rattle.semantics.specs.Facts.{Database, Derived, Meets}
use Rattle.semantics.proofs.Tools.{same?}
use Rattle.semantics.proofs.Bodies.{supported-vars}
use Rattle.model.specs.declared.Action.{Action}
use Rattle.model.specs.declared.Action.TheVariants.{Rule, New, Next}
use Rattle.model.specs.declared.Model.{Model}
use Rattle.model.specs.Records.{line_of, clause_body, program_of, clause_at}
use Rattle.model.specs.WellFormed.{WellFormed}
use Rattle.model.proofs.Accepted.{clause-safe}
use Rattle.facts_bits.specs.Width as width
use Rattle.facts_bits.specs.Bits.{in_row}
use Rattle.facts_heads.specs.Heads.{guard, IsMark}
use Rattle.facts_plans.specs.Plans.{head_of}
use Rattle.search_states.specs.declared.States.{States}
use Rattle.search_states.specs.States.{row}
use Rattle.search_states.proofs.Laws.{length-row}
use Rattle.search_ways.specs.Moves.{Marks, None, With, Starts, InRow, Noted, Exactly, CanTake}
use Rattle.search_ways.proofs.Marking.{marks-so}

-- THE CLAUSES BELOW i, with their marks in the work area
module _ (m : Model) (w : List ℕ) where
  abbrev pub Below : ℕ → ℕ → ℕ → Type 0
  Below i k e = (k < i) × Noted (clause_at m k).action w k e

  pub below_none : (t : List ℕ) → Marks t None → Marks t (Below 0)
  below_none t h = marks-so t None (Below 0) (λ k e l. ((λ q. absurd q), λ q. omega (arith, q.0))) h

  pub below_more : (i : ℕ) (t t' : List ℕ) → Marks t (Below i) → Marks t' (With t (InRow i width.slots (Noted (clause_at m i).action w i))) → Marks t' (Below (i + 1))
  below_more i t t' a b = marks-so t' (With t (InRow i width.slots (Noted (clause_at m i).action w i))) (Below (i + 1))
      (λ k e l. let p = a.bits k e l in (
        λ q. ⊎_elim (λ x. let y = p.0 x in (omega (arith, y.0), y.1)) (λ x. (omega (arith, x.0), subst (λ (j : ℕ). Noted (clause_at m j).action w j e) (sym x.0) x.2)) q,
        λ q. ⊎_elim (λ (z : k ≡ i). inr (z, l, subst (λ (j : ℕ). Noted (clause_at m j).action w j e) z q.1)) (λ (z : k ≢ i). inl (p.1 (omega (arith, q.0), q.1))) (same? k i),
      ))
      b

-- A MARK OF A `next` CLAUSE says that it can be taken
module _ (m : Model) (S : Database) (w : List ℕ) (i e : ℕ) (b : Body) where
  -- the mark is right
  abbrev Right : Action → Type 0
  Right a = (in_row w (guard i) e ≡ true) ↔ ((i < m.clausecount) × ((σ : ℕ → ℕ) × Meets (program_of m) S σ b × IsMark (head_of a i) σ i e))

  noted-starts : (a : Action) → SafeLine (line_of a b) → Right a → Noted a w i e → (e < length S) × Starts S (Derived (program_of m) S) e (line_of a b)
  noted-starts (Rule r n) s f h = absurd h
  noted-starts (New t) s f h = absurd h
  noted-starts (Next plus minus) s f h =
      let k = (f.0 h).1 in
      (subst (λ (x : ℕ). x < length S) (sym k.2.1) (k.1.0 0 (supported-vars 0 b s.0)), (k.0, sym k.2.1, k.1))

  starts-noted : (a : Action) → i < m.clausecount → Right a → Starts S (Derived (program_of m) S) e (line_of a b) → Noted a w i e
  starts-noted (Rule r n) l f h = absurd h
  starts-noted (New t) l f h = absurd h
  starts-noted (Next plus minus) l f h = f.1 (l, (h.0, h.2, (refl, sym h.1)))

-- all clauses
pub can-take : (m : Model) → WellFormed m → (s : States) (w t : List ℕ) → Exactly m w s → Marks t (Below m w m.clausecount) → Marks t (CanTake m s)
can-take m wf s w t ex h = marks-so t (Below m w m.clausecount) (CanTake m s)
    (λ i e l.
    let b = clause_body m.literals (clause_at m i) in
    let a = (clause_at m i).action in (
      λ q. let r = noted-starts m (row s) w i e b a (clause-safe m wf i q.0) (ex.marks i e (omega (arith, q.0, wf.clauses)) l) q.1 in (q.0, rw (length-row s ex.proper) at r.0, r.1),
      λ q. (q.0, starts-noted m (row s) w i e b a q.0 (ex.marks i e (omega (arith, q.0, wf.clauses)) l) q.2),
    ))
    h
