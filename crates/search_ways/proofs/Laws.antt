-- What the closed matrix of single steps says: who can come from which state to which.
use mathlib.Core.Path.{refl, sym, subst}
use mathlib.Core.Logic.{inl, inr, ◌≢◌}
use mathlib.Core.List.{List, [], ◌∷◌}
use Prim.Native.Nat.{ℕ, ◌<◌}
use native.Mathlib.Omega.{arith}
use Rattle.semantics.specs.Models.{Line, rule, new, next, other}
use Rattle.semantics.specs.Facts.{state, In, Derived}
use Rattle.semantics.specs.Tables.{Within}
use Rattle.semantics.specs.Walkers.{Settled, Whole, Comes}
use Rattle.semantics.proofs.Bodies.{more-facts}
use Rattle.semantics.proofs.WalkersMoves.{elem-state, comes-refl, comes-step}
use Rattle.semantics.proofs.WalkersSlots.{comes-slots}
use Rattle.model.specs.declared.Model.{Model}
use Rattle.model.specs.Records.{clause_line, program_of, clause_at}
use Rattle.model.specs.WellFormed.{WellFormed}
use Rattle.model.proofs.Lines.{every-line}
use Rattle.facts_bits.specs.Width as width
use Rattle.facts_table.specs.Table.{table_of}
use Rattle.search_states.specs.declared.States.{States}
use Rattle.search_states.specs.States.{row, Proper}
use Rattle.search_states.proofs.Laws.{length-row}
use Rattle.search_clauses.specs.Reach.{Yields, Lists}
use Rattle.search_clauses.proofs.Clauses.{lists-within}
use Rattle.search_ways.specs.Moves.{Marks, Exactly}
use Rattle.search_ways.specs.Steps.{Between, OneStep}
use Rattle.search_ways.specs.Chains.{Links, Linked}
use Rattle.search_ways.proofs.Marking.{marks-so}

-- WHERE NO CLAUSE ADDS A STATE the row is whole
pub whole : (m : Model) (w : List ℕ) (s : States) → Exactly m w s → ((i : ℕ) → i < m.clausecount → Lists (clause_line m.literals (clause_at m i)) s w) → Whole (program_of m) (row s)
whole m w s ex listed = every-line m (Settled (program_of m) (row s)) tt (λ i h. settled (clause_line m.literals (clause_at m i)) (lists-within (clause_line m.literals (clause_at m i)) s w (listed i h)))
  where
    settled : (L : Line) → Yields (Within (row s)) L (row s) w → Settled (program_of m) (row s) L
    settled (rule r xs b) y = tt
    settled (new t b) y = λ σ h. y σ (more-facts (row s) (Derived (program_of m) (row s)) (In (table_of w)) (λ r os. (ex.facts r os).1) σ b h)
    settled (next x plus minus b) y = λ σ h. y σ (more-facts (row s) (Derived (program_of m) (row s)) (In (table_of w)) (λ r os. (ex.facts r os).1) σ b h)
    settled other y = tt

-- CHAINS OF STEPS ARE WAYS
module _ (m : Model) (wf : WellFormed m) (s : States) (proper : Proper s) (steps : List ℕ) (marked : Marks steps (Between s.count (OneStep (program_of m) (row s)))) where
  small : {e : ℕ} → e < s.count → e < width.slots
  small l = omega (arith, proper.count)

  -- a slot's state is not empty
  pub slot-live : (e : ℕ) → e < s.count → state (row s) e ≢ 0
  slot-live e l z = omega (arith, z, (proper.atomic (state (row s) e) (elem-state (row s) e (rw (length-row s proper) l))).0)

  step-comes : (e u : ℕ) (t : ℕ) → OneStep (program_of m) (row s) e u → Comes (program_of m) (row s) (state (row s) u) t → Comes (program_of m) (row s) (state (row s) e) t
  step-comes e u t (inl q) h = subst (λ (v : ℕ). Comes (program_of m) (row s) (state (row s) v) t) (sym q) h
  step-comes e u t (inr (ℓ, q)) h = comes-step (program_of m) (row s) (state (row s) e) (state (row s) u) t ℓ q h

  links-comes : (e t : ℕ) (us : List ℕ) → t < s.count → Links steps s.count e us t → Comes (program_of m) (row s) (state (row s) e) (state (row s) t)
  links-comes e t [] l h = step-comes e t (state (row s) t) ((marked.bits e t (small l)).0 h).2 (comes-refl (program_of m) (row s) (state (row s) t))
  links-comes e t (u ∷ us) l h = step-comes e u (state (row s) t) ((marked.bits e u (small h.0)).0 h.1).2 (links-comes u t us l h.2)

  comes-linked : Whole (program_of m) (row s) → (e t : ℕ) → e < s.count → t < s.count → Comes (program_of m) (row s) (state (row s) e) (state (row s) t) → Linked steps s.count e t
  comes-linked whole e t h l c = comes-slots (program_of m) wf.safe (row s) whole proper.distinct (Linked steps s.count)
      (λ i g. let k = rw (length-row s proper) at g in ([], (marked.bits i i (small k)).1 (k, k, inl refl)))
      (λ i n j ℓ g f a r. let k = rw (length-row s proper) at g in let o = rw (length-row s proper) at f in (n ∷ r.0, (o, (marked.bits i n (small o)).1 (k, o, inr (ℓ, a)), r.1)))
      e t (rw (length-row s proper) h) (rw (length-row s proper) l) (slot-live t l) c

  -- THE LAW OF THE CLOSED MATRIX: bit t of row e is set exactly if an object of the state of slot e can come to that of slot t
  pub closed-law : Whole (program_of m) (row s) → (ways : List ℕ) → Marks ways (Between s.count (Linked steps s.count))
      → Marks ways (Between s.count (λ e t. Comes (program_of m) (row s) (state (row s) e) (state (row s) t)))
  closed-law whole ways h = marks-so ways (Between s.count (Linked steps s.count)) (Between s.count (λ e t. Comes (program_of m) (row s) (state (row s) e) (state (row s) t)))
      (λ e t l. (
        λ q. (q.0, q.1, links-comes e t q.2.0 q.1 q.2.1),
        λ q. (q.0, q.1, comes-linked whole e t q.0 q.1 q.2),
      ))
      h
