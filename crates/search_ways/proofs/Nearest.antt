-- Layers of slots, and the shortest way that they give.
use mathlib.Core.Path.{◌≡◌, refl, sym, ◌∙◌, subst}
use mathlib.Core.Logic.{◌⊎◌, inl, inr, ⊎_elim, ◌≢◌, ◌↔◌}
use mathlib.Core.Bool.{Bool, true, false}
use mathlib.Core.List.{List, [], ◌∷◌}
use Prim.Native.Nat.{ℕ, zero, suc, ◌+◌, ◌≤◌, ◌<◌}
use native.Mathlib.Omega.{arith}
use native.Mathlib.Numerals.{add-one}
use native.Mathlib.Nat.{zero-add}
use lib.Dec.{ltb}
use borrow.Author.Tests.{ltb-true, ltb-false}
use lib.ListN.{length, set, take, length-set}
use lib.Seq.{slice, slice-cons, take-set-lt, drop-set-lt, get_or-set_same}
use Rattle.std.proofs.lemmas.Bool.{cases_Bool}
use Rattle.limits.specs.Limits as limit
use Rattle.semantics.specs.Models.{line}
use Rattle.semantics.specs.Facts.{state}
use Rattle.semantics.specs.Tables.{seat}
use Rattle.semantics.specs.Walkers.{Whole, Takes, Way, Comes}
use Rattle.semantics.proofs.Tools.{same?, clash, seat-ok}
use Rattle.semantics.proofs.WalkersMoves.{elem-state, comes-empty, short-way}
use Rattle.semantics.proofs.WalkersSlots.{one-slot, takes-within}
use Rattle.model.specs.declared.Model.{Model}
use Rattle.model.specs.Records.{program_of}
use Rattle.model.specs.WellFormed.{WellFormed}
use Rattle.facts_bits.specs.Width as width
use Rattle.facts_bits.specs.Bits.{with_bit, in_row}
use Rattle.search_states.specs.declared.States.{States}
use Rattle.search_states.specs.States.{row, Proper}
use Rattle.search_states.proofs.Laws.{length-row}
use Rattle.search_ways.specs.Moves.{matrix_bytes, Marks, None, With, InRow}
use Rattle.search_ways.specs.Steps.{Between, OneStep}
use Rattle.search_ways.specs.Shortest.{Says, Near, NotBefore, Layers, Joined}
use Rattle.search_ways.proofs.Marking.{marks-so, marks-bit, marks_then}
use Rattle.search_ways.proofs.Laws.{slot-live}

-- THE NEXT LAYER, slot by slot: the slots below u of row j are taken
module _ (w l₀ l : List ℕ) (i j u : ℕ) (m : Marks l (With l₀ (InRow i width.slots (Joined w l₀ u j)))) where
  pub spread-more : in_row l₀ j u ≡ true → (l' : List ℕ) (D : ℕ → Type 0) → ((t : ℕ) → t < width.slots → D t ↔ (in_row w u t ≡ true)) → Marks l' (With l (InRow i width.slots D)) → Marks l' (With l₀ (InRow i width.slots (Joined w l₀ (u + 1) j)))
  spread-more q l' D f h = marks-so l' (With l₀ (λ k t. InRow i width.slots (Joined w l₀ u j) k t ⊎ InRow i width.slots D k t)) (With l₀ (InRow i width.slots (Joined w l₀ (u + 1) j)))
      (λ k t g. (
        λ a. ⊎_elim
            (λ x. inl x)
            (λ x. inr (⊎_elim (λ y. (y.0, y.1, (y.2.0, omega (arith, y.2.1), y.2.2))) (λ y. (y.0, y.1, (u, omega arith, (q, (f t g).0 y.2)))) x))
            a,
        λ a. ⊎_elim
            (λ x. inl x)
            (λ x. inr (⊎_elim
            (λ (z : x.2.0 ≡ u). inr (x.0, x.1, (f t g).1 (subst (λ (v : ℕ). in_row w v t ≡ true) z x.2.2.1)))
            (λ (z : x.2.0 ≢ u). inl (x.0, x.1, (x.2.0, omega (arith, x.2.1), x.2.2)))
            (same? x.2.0 u)))
            a,
      ))
      (marks_then l₀ l l' (InRow i width.slots (Joined w l₀ u j)) (InRow i width.slots D) m h)

  pub spread-skip : in_row l₀ j u ≡ false → Marks l (With l₀ (InRow i width.slots (Joined w l₀ (u + 1) j)))
  spread-skip q = marks-so l (With l₀ (InRow i width.slots (Joined w l₀ u j))) (With l₀ (InRow i width.slots (Joined w l₀ (u + 1) j)))
      (λ k t g. (
        λ a. ⊎_elim (λ x. inl x) (λ x. inr (x.0, x.1, (x.2.0, omega (arith, x.2.1), x.2.2))) a,
        λ a. ⊎_elim
            (λ x. inl x)
            (λ x. inr (⊎_elim
            (λ (z : x.2.0 ≡ u). clash (subst (λ (v : ℕ). in_row l₀ j v ≡ true) z x.2.2.0) q)
            (λ (z : x.2.0 ≢ u). (x.0, x.1, (x.2.0, omega (arith, x.2.1), x.2.2)))
            (same? x.2.0 u)))
            a,
      ))
      m

-- LAYER BY LAYER
module _ (w : List ℕ) (n : ℕ) (few : n ≤ limit.listed) (e : ℕ) where
  pub layers-start : e < n → (l : List ℕ) → Marks l None → length l ≡ matrix_bytes → Marks (with_bit l e) (Layers w n e 0)
  layers-start h l m long = marks-so (with_bit l e) (With l (λ k t. (k ≡ 0) × (t ≡ e))) (Layers w n e 0)
      (λ k t g. (
        λ a. ⊎_elim (λ x. absurd ((m.bits k t g).0 x)) (λ x. (omega (arith, x.0), rw x.0 (sym x.1))) a,
        λ a. let z : k ≡ 0 = omega (arith, a.0) in inr (z, sym (subst (λ (v : ℕ). Near w n v e t) z a.1)),
      ))
      (rw (zero-add e) at (marks-bit l 0 e (omega arith) (omega arith)))

  pub layers-more : (j : ℕ) (l l' : List ℕ) → Marks l (Layers w n e j) → Marks l' (With l (InRow (j + 1) width.slots (Joined w l n j))) → Marks l' (Layers w n e (j + 1))
  layers-more j l l' m h = marks-so l' (With l (InRow (j + 1) width.slots (Joined w l n j))) (Layers w n e (j + 1))
      (λ k t g. (
        λ a. ⊎_elim
            (λ x. let y = (m.bits k t g).0 x in (omega (arith, y.0), y.1))
            (λ x. (omega (arith, x.0), subst (λ (v : ℕ). Near w n v e t) (sym (x.0 ∙ add-one j)) (x.2.0, x.2.1, ((m.bits j x.2.0 (omega (arith, x.2.1))).0 x.2.2.0).1, x.2.2.1)))
            a,
        λ a. ⊎_elim
            (λ (z : k ≡ j + 1).
            let y = subst (λ (v : ℕ). Near w n v e t) (z ∙ add-one j) a.1 in
            inr (z, g, (y.0, y.1, ((m.bits j y.0 (omega (arith, y.1))).1 (omega arith, y.2), y.3))))
            (λ (z : k ≢ j + 1). inl ((m.bits k t g).1 (omega (arith, a.0), a.1)))
            (same? k (j + 1)),
      ))
      h

  -- one slot is not reached in j pairs either
  pub not_yet : (j t : ℕ) → t < n → (l : List ℕ) → Marks l (Layers w n e j) → in_row l j t ≡ false → NotBefore w n j e t → NotBefore w n (j + 1) e t
  not_yet j t h l m q f i g a = ⊎_elim
      (λ (z : i ≡ j). clash ((m.bits j t (omega arith)).1 (omega arith, subst (λ (v : ℕ). Near w n v e t) z a)) q)
      (λ (z : i ≢ j). f i (omega arith) a)
      (same? i j)

-- one pair before
near-cons : (w : List ℕ) (n j e u t : ℕ) → e < n → in_row w e u ≡ true → Near w n j u t → Near w n (suc j) e t
near-cons w n zero e u t l q h = (e, l, refl, subst (λ (v : ℕ). in_row w e v ≡ true) h q)
near-cons w n (suc j) e u t l q h = (h.0, h.1, near-cons w n j e u h.0 l q h.2, h.3)

-- WAYS ARE PAIRS, as many as it has lines
module _ (m : Model) (wf : WellFormed m) (s : States) (proper : Proper s) (whole : Whole (program_of m) (row s)) (links : List ℕ) (marked : Marks links (Between s.count (OneStep (program_of m) (row s)))) where
  way-near : (ls : List ℕ) (e t : ℕ) → e < s.count → t < s.count → Way (program_of m) (row s) (state (row s) e) ls (state (row s) t) → Near links s.count (length ls) e t
  way-near [] e t l h w = one-slot (row s) proper.distinct e t (rw (length-row s proper) l) (rw (length-row s proper) h) w
  way-near (ℓ ∷ ls) e t l h w = ⊎_elim
      (λ z. absurd (slot-live m wf s proper links marked t h (comes-empty (program_of m) wf.safe (row s) (state (row s) t) (ls, subst (λ (v : ℕ). Way (program_of m) (row s) v ls (state (row s) t)) z w.2))))
      (λ z.
      let r = seat-ok w.0 (row s) z in
      let u = seat w.0 (row s) in
      let g : u < s.count = rw (length-row s proper) at r.0 in
      near-cons links s.count (length ls) e u t l
      ((marked.bits e u (omega (arith, proper.count))).1 (l, g, inr (ℓ, subst (λ (v : ℕ). Takes (program_of m) (row s) (state (row s) e) v (line (program_of m) ℓ)) (sym r.1) w.1)))
      (way-near ls u t g h (subst (λ (v : ℕ). Way (program_of m) (row s) v ls (state (row s) t)) (sym r.1) w.2)))
      (takes-within (program_of m) wf.safe (row s) whole (state (row s) e) w.0 ℓ w.1)

  module _ (e t : ℕ) (l : e < s.count) (h : t < s.count) where
    -- fewer pairs than there are slots lead to where an object can come
    pub some_near : Comes (program_of m) (row s) (state (row s) e) (state (row s) t) → (j : ℕ) × (j < s.count) × Near links s.count j e t
    some_near c =
        let r = short-way (program_of m) wf.safe (row s) (state (row s) e) (state (row s) t) c (elem-state (row s) t (rw (length-row s proper) h)) in
        (length r.0, rw (length-row s proper) at r.2, way-near r.0 e t l h r.1)

    -- no way is shorter than the least number of pairs
    pub least-way : (k : ℕ) → NotBefore links s.count k e t → (ls : List ℕ) → Way (program_of m) (row s) (state (row s) e) ls (state (row s) t) → k ≤ length ls
    least-way k f ls w = ⊎_elim (λ q. absurd (f (length ls) (ltb-true (length ls) k q) (way-near ls e t l h w))) (λ q. ltb-false (length ls) k q) (cases_Bool (ltb (length ls) k))

-- a slot from which one pair leads to what was not reached before was itself not reached before
pub not-before : (w : List ℕ) (n j e u t : ℕ) → u < n → NotBefore w n (j + 1) e t → in_row w u t ≡ true → NotBefore w n j e u
not-before w n j e u t l f q i h a = f (suc i) (omega arith) (u, l, a, q)

-- ONE LINE MORE at the front of what is written
pub slice-more : (out : List ℕ) (j k x : ℕ) → j < k → k ≤ length out → slice j k (set out j x) ≡ x ∷ slice (j + 1) k out
slice-more out j k x l h =
    slice-cons j k (set out j x) 0 l (rw length-set h)
    ∙ rw (get_or-set_same out j x 0 (omega arith), add-one j, take-set-lt k out j x l, drop-set-lt (suc j) (take k out) j x (omega arith))

-- what a test says
pub said : (r : Bool) (A : Type 0) → Says r A → r ≡ true → A
said true A h q = h
said false A h q = clash q refl

pub denied : (r : Bool) (A : Type 0) → Says r A → r ≡ false → A → ⊥
denied true A h q = clash refl q
denied false A h q = h
