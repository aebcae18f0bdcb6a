-- The matrix of single steps, slot by slot and clause by clause.
use mathlib.Core.Path.{◌≡◌, refl, sym, ap, ◌∙◌, subst}
use mathlib.Core.Logic.{◌⊎◌, inl, inr, ⊎_elim, ◌≢◌, ◌↔◌}
use mathlib.Core.Bool.{true}
use mathlib.Core.List.{List}
use Prim.Native.Nat.{ℕ, ◌+◌, ◌*◌, ◌≤◌, ◌<◌}
use native.Mathlib.Omega.{arith}
use lib.Dec.{eqb}
use lib.ListN.{length, get_or}
use Rattle.std.specs.Prelude.{Option, Some, None, MatchOption}
use Rattle.std.specs.Option.{IsSome}
use Rattle.std.specs.List.{position}
use lib.Seq.{get_or-take}
use Rattle.limits.specs.Limits as limit
use Rattle.semantics.specs.Labels.{relabel}
use Rattle.semantics.specs.Models.{elem, Body, SafeLine, Program, line, Distinct}
use Rattle.semantics.specs.Facts.{Database, state, Derived}
use Rattle.semantics.specs.Walkers.{Takes}
use Rattle.semantics.proofs.Tools.{same?, clash}
use Rattle.semantics.proofs.Bodies.{supported-vars}
use Rattle.semantics.proofs.WalkersMoves.{elem-state}
use Rattle.semantics.proofs.WalkersSlots.{one-slot}
use Rattle.model.specs.declared.Action.{Action}
use Rattle.model.specs.declared.Action.TheVariants.{Rule, New, Next}
use Rattle.model.specs.declared.Model.{Model}
use Rattle.model.specs.Records.{line_of, clause_body, program_of, clause_at}
use Rattle.model.specs.WellFormed.{WellFormed}
use Rattle.model.proofs.Accepted.{on_line, clause-safe}
use Rattle.model.proofs.Lines.{clause-or-other}
use Rattle.facts_bits.specs.Width as width
use Rattle.facts_bits.specs.Bits.{with_bit, in_row}
use Rattle.search_states.specs.declared.States.{States}
use Rattle.search_states.specs.States.{row, Proper}
use Rattle.search_states.proofs.Laws.{length-row}
use Rattle.search_states.proofs.Seats.{position-there, position-nowhere}
use Rattle.search_ways.specs.Moves.{matrix_bytes, Marks, None as NoPair, With, Starts, InRow, CanTake}
use Rattle.search_ways.specs.Steps.{Between, Turns, LineBetween, Led, OneStep}
use Rattle.search_ways.proofs.Marking.{marks-so, marks-same, row_put}

-- WHERE A SLOT IS LED: to the one slot that has its relabeled state
module _ (S : Database) (one : Distinct S) (few : length S ≤ limit.listed) (plus minus e : ℕ) (here : e < length S) (w : List ℕ) (size : length w ≡ matrix_bytes) where
  -- the state that slot e is led to, and that t has it
  abbrev led : ℕ
  led = relabel (state S e) plus minus

  abbrev Fits : ℕ → Type 0
  Fits t = state S t ≡ led

  pub led-one : (t : ℕ) → position (eqb led) S ≡ Some t → Marks (with_bit w (e * width.bits + t)) (With w (InRow e (length S) Fits))
  led-one t q =
      let p = position-there led S t q in
      row_put w e (length S) t Fits p.0 (omega (arith, p.0)) (omega (arith, p.0)) p.1 (λ u l g. one-slot S one u t l p.0 (g ∙ sym p.1))

  pub led-none : position (eqb led) S ≡ None → Marks w (With w (InRow e (length S) Fits))
  led-none q = marks-same w (InRow e (length S) Fits) (λ k u x. clash (subst (λ (v : ℕ). elem v S ≡ true) x.2 (elem-state S u x.1)) (position-nowhere led S q))

-- CLAUSE BY CLAUSE
module _ (m : Model) (S : Database) (n : ℕ) (table : List ℕ) where
  -- the slots are the same, or a clause below i leads from the one to the other
  abbrev pub LedTo : ℕ → ℕ → ℕ → Type 0
  LedTo i e t = Between n (λ e t. e ≡ t) e t ⊎ ((k : ℕ) × (k < i) × Between n (Led table k S (clause_at m k).action) e t)

  pub led-start : (w w' : List ℕ) → Marks w NoPair → Marks w' (With w (Between n (λ e t. e ≡ t))) → Marks w' (LedTo 0)
  led-start w w' a b = marks-so w' (With w (Between n (λ e t. e ≡ t))) (LedTo 0)
      (λ e t l. (
        λ q. ⊎_elim (λ x. absurd ((a.bits e t l).0 x)) (λ x. inl x) q,
        λ q. ⊎_elim (λ x. inr x) (λ x. absurd (omega (arith, x.1))) q,
      ))
      b

  pub led-more : (i : ℕ) (w w' : List ℕ) → Marks w (LedTo i) → Marks w' (With w (Between n (Led table i S (clause_at m i).action))) → Marks w' (LedTo (i + 1))
  led-more i w w' a b = marks-so w' (With w (Between n (Led table i S (clause_at m i).action))) (LedTo (i + 1))
      (λ e t l. let p = a.bits e t l in (
        λ q. ⊎_elim (λ x. ⊎_elim (λ y. inl y) (λ y. inr (y.0, omega (arith, y.1), y.2)) (p.0 x)) (λ x. inr (i, omega arith, x)) q,
        λ q. ⊎_elim
            (λ x. inl (p.1 (inl x)))
            (λ x. ⊎_elim
            (λ (z : x.0 ≡ i). inr (subst (λ (k : ℕ). Between n (Led table k S (clause_at m k).action) e t) z x.2))
            (λ (z : x.0 ≢ i). inl (p.1 (inr (x.0, omega (arith, x.1), x.2))))
            (same? x.0 i))
            q,
      ))
      b

-- WHAT THE TABLE OF MOVES SAYS, in the words of the semantics
module _ (P : Program) (S : Database) (e : ℕ) (b : Body) where
  starts-takes : (t : ℕ) (a : Action) → Starts S (Derived P S) e (line_of a b) → Turns a (state S e) t → Takes P S (state S e) t (line_of a b)
  starts-takes t (Rule r n) h q = absurd h
  starts-takes t (New u) h q = absurd h
  starts-takes t (Next plus minus) h q = (q, (h.0, ap (state S) h.1, h.2))

  takes-starts : Distinct S → e < length S → (t : ℕ) (a : Action) → SafeLine (line_of a b) → Takes P S (state S e) t (line_of a b) → Starts S (Derived P S) e (line_of a b) × Turns a (state S e) t
  takes-starts one l t (Rule r n) s h = absurd h
  takes-starts one l t (New u) s h = absurd h
  takes-starts one l t (Next plus minus) s h = let k = h.1 in ((k.0, one-slot S one (k.0 0) e (k.2.0 0 (supported-vars 0 b s.0)) l k.1, k.2), h.0)

  starts-turn : (a : Action) → Starts S (Derived P S) e (line_of a b) → (t : ℕ) × Turns a (state S e) t
  starts-turn (Rule r n) h = absurd h
  starts-turn (New u) h = absurd h
  starts-turn (Next plus minus) h = (relabel (state S e) plus minus, refl)

module _ (m : Model) (wf : WellFormed m) (s : States) (proper : Proper s) where
  -- a clause that can be taken from slot e takes an object of its state to what it makes of it,
  pub can-takes : (i e t : ℕ) → CanTake m s i e → Turns (clause_at m i).action (state (row s) e) t → Takes (program_of m) (row s) (state (row s) e) t (line (program_of m) (clause_at m i).line)
  can-takes i e t h q = rw (on_line m wf i h.0) (starts-takes (program_of m) (row s) e (clause_body m.literals (clause_at m i)) t (clause_at m i).action h.2 q)

  -- and no other does
  pub takes-can : (i e t : ℕ) → i < m.clausecount → e < s.count → Takes (program_of m) (row s) (state (row s) e) t (line (program_of m) (clause_at m i).line) → CanTake m s i e × Turns (clause_at m i).action (state (row s) e) t
  takes-can i e t h l q =
      let r = takes-starts (program_of m) (row s) e (clause_body m.literals (clause_at m i)) proper.distinct (rw (length-row s proper) l) t (clause_at m i).action (clause-safe m wf i h) (rw (on_line m wf i h) at q) in
      ((h, l, r.0), r.1)

  -- THE LAW OF THE TABLE: clause i can be taken from slot e exactly if its line takes an object of that state to some state
  pub can-take-law : (i e : ℕ) → i < m.clausecount → e < s.count → CanTake m s i e ↔ ((t : ℕ) × Takes (program_of m) (row s) (state (row s) e) t (line (program_of m) (clause_at m i).line))
  can-take-law i e h l = (
    λ q. let r = starts-turn (program_of m) (row s) e (clause_body m.literals (clause_at m i)) (clause_at m i).action q.2 in (r.0, can-takes i e r.0 q r.1),
    λ q. (takes-can i e q.0 h l q.1).0,
  )

  module _ (table : List ℕ) (marked : Marks table (CanTake m s)) where
    small : (e : ℕ) → e < s.count → e < width.slots
    small e l = omega (arith, proper.count)

    -- the table has a clause for each move
    pub takes-clause : (e t ℓ : ℕ) → e < s.count → Takes (program_of m) (row s) (state (row s) e) t (line (program_of m) ℓ) → (k : ℕ) × (k < m.clausecount) × (in_row table k e ≡ true) × Turns (clause_at m k).action (state (row s) e) t
    takes-clause e t ℓ l q = ⊎_elim
        (λ c.
        let r = takes-can c.0 e t c.1 l (subst (λ (n : ℕ). Takes (program_of m) (row s) (state (row s) e) t (line (program_of m) n)) (sym c.2) q) in
        (c.0, c.1, (marked.bits c.0 e (small e l)).1 r.0, r.1))
        (λ c. absurd (rw c.1 at q))
        (clause-or-other m ℓ)

    -- and no other
    pub clause-takes : (e t k : ℕ) → e < s.count → in_row table k e ≡ true → Turns (clause_at m k).action (state (row s) e) t → Takes (program_of m) (row s) (state (row s) e) t (line (program_of m) (clause_at m k).line)
    clause-takes e t k l q h = can-takes k e t ((marked.bits k e (small e l)).0 q) h

    -- the line between two states is one that takes an object of the slot's state to the other, or no line does
    pub between-takes : (e t : ℕ) → e < s.count → (r : Option ℕ) → LineBetween m table e (get_or s.states e 0) t r
        → MatchOption r ((ℓ : ℕ) → Takes (program_of m) (row s) (state (row s) e) t (line (program_of m) ℓ) → ⊥) (λ ℓ. Takes (program_of m) (row s) (state (row s) e) t (line (program_of m) ℓ))
    between-takes e t l None h = λ ℓ q. let k = takes-clause e t ℓ l q in h k.0 (k.1, k.2, rw (get_or-take s.count s.states e 0 l) at k.3)
    between-takes e t l (Some n) h = rw h.3 (clause-takes e t h.0 l h.1.1 (rw (get_or-take s.count s.states e 0 l) h.1.2))

    pub between-some : (e t ℓ : ℕ) → e < s.count → (r : Option ℕ) → LineBetween m table e (get_or s.states e 0) t r → Takes (program_of m) (row s) (state (row s) e) t (line (program_of m) ℓ) → IsSome r
    between-some e t ℓ l None h q = absurd (between-takes e t l None h ℓ q)
    between-some e t ℓ l (Some n) h q = refl

    -- all clauses: one step at most
    pub led-all : (w : List ℕ) → Marks w (LedTo m (row s) s.count table m.clausecount) → Marks w (Between s.count (OneStep (program_of m) (row s)))
    led-all w h = marks-so w (LedTo m (row s) s.count table m.clausecount) (Between s.count (OneStep (program_of m) (row s))) (λ e t l. (onward e t, back e t)) h
      where
        onward : (e t : ℕ) → LedTo m (row s) s.count table m.clausecount e t → Between s.count (OneStep (program_of m) (row s)) e t
        onward e t (inl x) = (x.0, x.1, inl x.2)
        onward e t (inr (k, l, x)) = (x.0, x.1, inr ((clause_at m k).line, clause-takes e (state (row s) t) k x.0 x.2.0 x.2.1))

        back : (e t : ℕ) → Between s.count (OneStep (program_of m) (row s)) e t → LedTo m (row s) s.count table m.clausecount e t
        back e t (l, h, inl q) = inl (l, h, q)
        back e t (l, h, inr (ℓ, q)) = let r = takes-clause e (state (row s) t) ℓ l q in inr (r.0, r.1, (l, h, (r.2, r.3)))
