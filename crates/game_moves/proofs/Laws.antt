-- Where the clauses of a side lead, slot by slot and clause by clause, and that these are its moves.
use mathlib.Core.Path.{◌≡◌, refl, sym, ap, ◌∙◌, subst}
use mathlib.Core.Logic.{◌⊎◌, inl, inr, ⊎_elim, ◌≢◌}
use mathlib.Core.Bool.{true, false}
use mathlib.Core.List.{List}
use Prim.Native.Nat.{ℕ, ◌+◌, ◌*◌, ◌/◌, ◌≤◌, ◌<◌}
use native.Mathlib.Omega.{arith}
use lib.ListN.{length, replicate, get_or-eq_default}
use Rattle.std.proofs.lemmas.Bool.{cases_Bool}
use Rattle.semantics.specs.Labels.{relabel}
use Rattle.semantics.specs.Models.{elem, Distinct, line}
use Rattle.semantics.specs.Facts.{Database, state}
use Rattle.semantics.specs.Tables.{Within, seat}
use Rattle.semantics.specs.Walkers.{Whole, Takes}
use Rattle.semantics.proofs.Tools.{same?, clash, seat-ok}
use Rattle.semantics.proofs.WalkersMoves.{elem-state}
use Rattle.semantics.proofs.WalkersSlots.{one-slot, takes-within}
use Rattle.model.specs.declared.Action.{Action}
use Rattle.model.specs.declared.Action.TheVariants.{Rule, New, Next}
use Rattle.model.specs.declared.Model.{Model}
use Rattle.model.specs.Records.{program_of, clause_at}
use Rattle.model.specs.WellFormed.{WellFormed}
use Rattle.model.proofs.Lines.{clause-or-other}
use Rattle.facts_bits.specs.Width as width
use Rattle.facts_bits.specs.Bits.{with_bit, in_row}
use Rattle.search_states.specs.declared.States.{States}
use Rattle.search_states.specs.States.{row, Proper}
use Rattle.search_states.proofs.Laws.{length-row, row-full}
use Rattle.search_states.proofs.Seats.{seat-absent}
use Rattle.search_ways.specs.Moves.{matrix_bytes, Marks, None, With, CanTake}
use Rattle.search_ways.specs.Steps.{Turns}
use Rattle.search_ways.proofs.Marking.{marks-none, marks-so, marks-bit, marks_then}
use Rattle.search_ways.proofs.Stepping.{can-takes, takes-can}
use Rattle.game_moves.specs.Own.{Own, Goes, OwnBelow}

-- THE PLACE OF A STATE, listed or empty
pub seat-most : (s : ℕ) (S : Database) → seat s S ≤ length S
seat-most s S = ⊎_elim (λ (e : elem s S ≡ true). omega (arith, (seat-ok s S e).0)) (λ (e : elem s S ≡ false). omega (arith, seat-absent s S e)) (cases_Bool (elem s S))

-- behind the last state is the empty one
pub state-behind : (S : Database) → state S (length S) ≡ 0
state-behind S = get_or-eq_default S 0 (omega arith)

pub state-seat : (S : Database) (s : ℕ) → Within S s → state S (seat s S) ≡ s
state-seat S s (inr e) = (seat-ok s S e).1
state-seat S s (inl z) = ⊎_elim
    (λ (e : elem s S ≡ true). (seat-ok s S e).1)
    (λ (e : elem s S ≡ false). ap (state S) (seat-absent s S e) ∙ state-behind S ∙ sym z)
    (cases_Bool (elem s S))

pub seat-state : (S : Database) → Distinct S → elem 0 S ≡ false → (t : ℕ) → t ≤ length S → seat (state S t) S ≡ t
seat-state S one full t l = ⊎_elim
    (λ (z : t ≡ length S). rw z (ap (λ (s : ℕ). seat s S) (state-behind S) ∙ seat-absent 0 S full))
    (λ (z : t ≢ length S).
    let h : t < length S = omega (arith, l, z) in
    let r = seat-ok (state S t) S (elem-state S t h) in
    one-slot S one (seat (state S t) S) t r.0 h r.1)
    (same? t (length S))

-- SLOT BY SLOT: where a `next` clause leads from the slots below k
module _ (table : List ℕ) (i : ℕ) (S : Database) (plus minus : ℕ) where
  abbrev pub GoesBelow : ℕ → ℕ → ℕ → Type 0
  GoesBelow k e t = (e < k) × Goes table i S (Next plus minus) e t

  module _ (k : ℕ) (w₀ w : List ℕ) (m : Marks w (With w₀ (GoesBelow k))) where
    pub goes-more : k < length S → in_row table i k ≡ true → (t : ℕ) → t ≡ seat (relabel (state S k) plus minus) S → t < width.slots → (k * width.bits + t) / 8 < length w → Marks (with_bit w (k * width.bits + t)) (With w₀ (GoesBelow (k + 1)))
    goes-more l b t q h room = marks-so (with_bit w (k * width.bits + t)) (With w₀ (λ e u. GoesBelow k e u ⊎ ((e ≡ k) × (u ≡ t)))) (With w₀ (GoesBelow (k + 1)))
        (λ e u g. (
          λ x. ⊎_elim (λ y. inl y) (λ y. inr (⊎_elim (λ z. (omega (arith, z.0), z.1)) (λ z. rw (z.0, z.1) (omega arith, (l, b, q))) y)) x,
          λ x. ⊎_elim
              (λ y. inl y)
              (λ y. inr (⊎_elim
              (λ (z : e ≡ k). inr (z, subst (λ (v : ℕ). u ≡ seat (relabel (state S v) plus minus) S) z y.1.2 ∙ sym q))
              (λ (z : e ≢ k). inl (omega (arith, y.0, z), y.1))
              (same? e k)))
              x,
        ))
        (marks_then w₀ w (with_bit w (k * width.bits + t)) (GoesBelow k) (λ e u. (e ≡ k) × (u ≡ t)) m (marks-bit w k t h room))

    pub goes-skip : in_row table i k ≡ false → Marks w (With w₀ (GoesBelow (k + 1)))
    goes-skip b = marks-so w (With w₀ (GoesBelow k)) (With w₀ (GoesBelow (k + 1)))
        (λ e u g. (
          λ x. ⊎_elim (λ y. inl y) (λ y. inr (omega (arith, y.0), y.1)) x,
          λ x. ⊎_elim
              (λ y. inl y)
              (λ y. inr (⊎_elim
              (λ (z : e ≡ k). clash (subst (λ (v : ℕ). in_row table i v ≡ true) z y.1.1) b)
              (λ (z : e ≢ k). (omega (arith, y.0, z), y.1))
              (same? e k)))
              x,
        ))
        m

-- CLAUSE BY CLAUSE
module _ (m : Model) (table : List ℕ) (S : Database) (ls : List ℕ) where
  pub own-none : Marks (replicate matrix_bytes 0) (OwnBelow m table S ls 0)
  own-none = marks-so (replicate matrix_bytes 0) None (OwnBelow m table S ls 0) (λ e t l. ((λ q. absurd q), λ q. omega (arith, q.1))) (marks-none matrix_bytes)

  module _ (i : ℕ) (w : List ℕ) (a : Marks w (OwnBelow m table S ls i)) where
    pub own-more : elem (clause_at m i).line ls ≡ true → (w' : List ℕ) → Marks w' (With w (Goes table i S (clause_at m i).action)) → Marks w' (OwnBelow m table S ls (i + 1))
    own-more q w' b = marks-so w' (With w (Goes table i S (clause_at m i).action)) (OwnBelow m table S ls (i + 1))
        (λ e t l. let p = a.bits e t l in (
          λ x. ⊎_elim (λ y. let z = p.0 y in (z.0, omega (arith, z.1), z.2, z.3)) (λ y. (i, omega arith, q, y)) x,
          λ x. ⊎_elim
              (λ (z : x.0 ≡ i). inr (subst (λ (k : ℕ). Goes table k S (clause_at m k).action e t) z x.3))
              (λ (z : x.0 ≢ i). inl (p.1 (x.0, omega (arith, x.1, z), x.2, x.3)))
              (same? x.0 i),
        ))
        b

    pub own-skip : elem (clause_at m i).line ls ≡ false → Marks w (OwnBelow m table S ls (i + 1))
    own-skip q = marks-so w (OwnBelow m table S ls i) (OwnBelow m table S ls (i + 1))
        (λ e t l. (
          λ x. (x.0, omega (arith, x.1), x.2, x.3),
          λ x. ⊎_elim
              (λ (z : x.0 ≡ i). clash (subst (λ (k : ℕ). elem (clause_at m k).line ls ≡ true) z x.2) q)
              (λ (z : x.0 ≢ i). (x.0, omega (arith, x.1, z), x.2, x.3))
              (same? x.0 i),
        ))
        a

-- THE MOVES in the words of the semantics
module _ (m : Model) (wf : WellFormed m) (s : States) (proper : Proper s) (whole : Whole (program_of m) (row s)) (table : List ℕ) (marked : Marks table (CanTake m s)) (ls : List ℕ) where
  abbrev S : Database
  S = row s

  full : elem 0 S ≡ false
  full = ⊎_elim (λ e. absurd (row-full s proper e)) (λ e. e) (cases_Bool (elem 0 S))

  below : {e : ℕ} → e < length S → e < s.count
  below l = omega (arith, l, length-row s proper)

  goes-takes : (k e t : ℕ) → Goes table k S (clause_at m k).action e t → (e < length S) × (t ≤ length S) × Takes (program_of m) S (state S e) (state S t) (line (program_of m) (clause_at m k).line)
  goes-takes k e t = go (clause_at m k).action refl
    where
      go : (a : Action) → (clause_at m k).action ≡ a → Goes table k S a e t → (e < length S) × (t ≤ length S) × Takes (program_of m) S (state S e) (state S t) (line (program_of m) (clause_at m k).line)
      go (Rule r n) q g = absurd g
      go (New u) q g = absurd g
      go (Next plus minus) q g =
          let v = relabel (state S e) plus minus in
          let a = can-takes m wf s proper k e v ((marked.bits k e (omega (arith, g.0, length-row s proper, proper.count))).0 g.1) (rw q refl) in
          let h = state-seat S v (takes-within (program_of m) wf.safe S whole (state S e) v (clause_at m k).line a) in
          (g.0, rw g.2 (seat-most v S), subst (λ (x : ℕ). Takes (program_of m) S (state S e) x (line (program_of m) (clause_at m k).line)) (sym (ap (state S) g.2 ∙ h)) a)

  takes_goes : (k e t : ℕ) → k < m.clausecount → e < length S → t ≤ length S → Takes (program_of m) S (state S e) (state S t) (line (program_of m) (clause_at m k).line) → Goes table k S (clause_at m k).action e t
  takes_goes k e t h l o a = let r = takes-can m wf s proper k e (state S t) h (below l) a in go (clause_at m k).action ((marked.bits k e (omega (arith, l, length-row s proper, proper.count))).1 r.0) r.1
    where
      go : (a : Action) → in_row table k e ≡ true → Turns a (state S e) (state S t) → Goes table k S a e t
      go (Rule r n) b q = q
      go (New u) b q = q
      go (Next plus minus) b q = (l, b, sym (seat-state S proper.distinct full t o) ∙ ap (λ (x : ℕ). seat x S) q)

  pub own-all : (w : List ℕ) → Marks w (OwnBelow m table S ls m.clausecount) → Marks w (Own (program_of m) S ls)
  own-all w h = marks-so w (OwnBelow m table S ls m.clausecount) (Own (program_of m) S ls)
      (λ e t l. (
        λ x. let g = goes-takes x.0 e t x.3 in (g.0, g.1, ((clause_at m x.0).line, x.2, g.2)),
        λ x. let y = x.2 in ⊎_elim
            (λ c. (
              c.0,
              c.1,
              subst (λ (ℓ : ℕ). elem ℓ ls ≡ true) (sym c.2) y.1,
              takes_goes c.0 e t c.1 x.0 x.1 (subst (λ (ℓ : ℕ). Takes (program_of m) S (state S e) (state S t) (line (program_of m) ℓ)) (sym c.2) y.2),
            ))
            (λ c. absurd (rw c.1 at y.2))
            (clause-or-other m y.0),
      ))
      h
