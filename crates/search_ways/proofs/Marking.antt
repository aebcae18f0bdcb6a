-- Marking pairs in a table of rows.
use mathlib.Core.Path.{◌≡◌, refl, sym, ◌∙◌, subst}
use mathlib.Core.Logic.{◌⊎◌, inl, inr, ⊎_elim, ◌≢◌, ◌↔◌}
use mathlib.Core.Bool.{true, ◌||◌, ◌&&◌, false≢true, and-eq-true_iff}
use mathlib.Core.List.{List}
use Prim.Native.Nat.{ℕ, ◌+◌, ◌*◌, ◌/◌, ◌%◌, ◌<◌}
use native.Mathlib.Omega.{arith}
use borrow.Author.Tests.{eq-eqb, eqb-true, ltb-true, ltb-false}
use lib.Dec.{eqb, ltb}
use lib.ListN.{length, get_or, replicate, get_or-replicate, length-replicate, get_or-eq_default}
use Rattle.std.proofs.lemmas.Bool.{cases_Bool, or_cases}
use Rattle.semantics.proofs.Tools.{same?, has-empty, or_right}
use Rattle.facts_bits.specs.Width as width
use Rattle.facts_bits.specs.Bits.{bit_at, with_bit, in_row, Joined}
use Rattle.facts_bits.proofs.Laws.{with-bit}
use Rattle.search_ways.specs.Moves.{Marks, None, With, InRow}

-- bytes that are 0 have no bit
marks-zero : (w : List ℕ) (n : ℕ) → length w ≡ n → ((k d : ℕ) → k < n → ◌≡◌ {A = ℕ} 0 0 → get_or w k d ≡ 0) → Marks w None
unfolding bit_at
marks-zero w n long h = record { bits = λ i e l. ((λ q. false≢true (sym (rw (zero i e) (has-empty ((i * width.bits + e) % 8))) ∙ q)), λ q. absurd q) }
  where
    zero : (i e : ℕ) → get_or w ((i * width.bits + e) / 8) 0 ≡ 0
    zero i e = ⊎_elim
        (λ q. h ((i * width.bits + e) / 8) 0 (ltb-true ((i * width.bits + e) / 8) n q) refl)
        (λ q. get_or-eq_default w 0 (omega (arith, long, ltb-false ((i * width.bits + e) / 8) n q)))
        (cases_Bool (ltb ((i * width.bits + e) / 8) n))

pub marks-none : (n : ℕ) → Marks (replicate {A = ℕ} n 0) None
marks-none n = marks-zero (replicate n 0) n (length-replicate n 0) (λ k d l e. get_or-replicate n k 0 d l)

-- the same pairs, said in another way
pub marks-so : (w : List ℕ) (R R' : ℕ → ℕ → Type 0) → ((i e : ℕ) → e < width.slots → R i e ↔ R' i e) → Marks w R → Marks w R'
marks-so w R R' f m = record { bits = λ i e l. let g = f i e l in let h = m.bits i e l in ((λ q. g.0 (h.0 q)), (λ q. h.1 (g.1 q))) }

-- nothing is added
pub marks-same : (w : List ℕ) (D : ℕ → ℕ → Type 0) → ((i e : ℕ) → D i e → ⊥) → Marks w (With w D)
marks-same w D f = record { bits = λ i e l. ((λ q. inl q), λ q. ⊎_elim (λ r. r) (λ r. absurd (f i e r)) q) }

-- one pair is added
pub marks-bit : (w : List ℕ) (i e : ℕ) → e < width.slots → (i * width.bits + e) / 8 < length w → Marks (with_bit w (i * width.bits + e)) (With w (λ k t. (k ≡ i) × (t ≡ e)))
marks-bit w i e h room = record {
  bits = λ k t l. (
    λ q. ⊎_elim
        (λ r. let z = eqb-true (k * width.bits + t) (i * width.bits + e) r in inr (omega arith, omega arith))
        (λ r. inl r)
        (or_cases (eqb (k * width.bits + t) (i * width.bits + e)) (in_row w k t) (sym (law k t) ∙ q)),
    λ q. law k t ∙ ⊎_elim (λ r. or_right (eqb (k * width.bits + t) (i * width.bits + e)) (in_row w k t) r) (λ r. rw (eq-eqb (k * width.bits + t) (i * width.bits + e) (rw (r.0, r.1)))) q,
  );
}
  where
    law : (k t : ℕ) → in_row (with_bit w (i * width.bits + e)) k t ≡ (eqb (k * width.bits + t) (i * width.bits + e) || in_row w k t)
    law k t = with-bit w (i * width.bits + e) (k * width.bits + t) room

-- one after the other
pub marks_then : (w w₁ w₂ : List ℕ) (D E : ℕ → ℕ → Type 0) → Marks w₁ (With w D) → Marks w₂ (With w₁ E) → Marks w₂ (With w (λ i e. D i e ⊎ E i e))
marks_then w w₁ w₂ D E a b = record {
  bits = λ i e l. let p = a.bits i e l in let q = b.bits i e l in (
    λ h. ⊎_elim (λ x. ⊎_elim (λ y. inl y) (λ y. inr (inl y)) (p.0 x)) (λ x. inr (inr x)) (q.0 h),
    λ h. q.1 (⊎_elim (λ x. inl (p.1 (inl x))) (λ x. ⊎_elim (λ y. inl (p.1 (inr y))) (λ y. inr y) x) h),
  );
}

-- A ROW SLOT BY SLOT
module _ (w₀ w : List ℕ) (i e : ℕ) (D : ℕ → Type 0) (m : Marks w (With w₀ (InRow i e D))) where
  -- slot e is such a one
  pub row_more : e < width.slots → (i * width.bits + e) / 8 < length w → D e → Marks (with_bit w (i * width.bits + e)) (With w₀ (InRow i (e + 1) D))
  row_more l room d = marks-so (with_bit w (i * width.bits + e)) (With w₀ (λ k t. InRow i e D k t ⊎ ((k ≡ i) × (t ≡ e)))) (With w₀ (InRow i (e + 1) D))
      (λ k t h. (
        λ q. ⊎_elim (λ x. inl x) (λ x. inr (⊎_elim (λ y. (y.0, omega (arith, y.1), y.2)) (λ y. (y.0, omega (arith, y.1), subst D (sym y.1) d)) x)) q,
        λ q. ⊎_elim (λ x. inl x) (λ x. inr (⊎_elim (λ (z : t ≡ e). inr (x.0, z)) (λ (z : t ≢ e). inl (x.0, omega (arith, x.1), x.2)) (same? t e))) q,
      ))
      (marks_then w₀ w (with_bit w (i * width.bits + e)) (InRow i e D) (λ k t. (k ≡ i) × (t ≡ e)) m (marks-bit w i e l room))

  -- slot e is no such one
  pub row-skip : (D e → ⊥) → Marks w (With w₀ (InRow i (e + 1) D))
  row-skip n = marks-so w (With w₀ (InRow i e D)) (With w₀ (InRow i (e + 1) D))
      (λ k t h. (
        λ q. ⊎_elim (λ x. inl x) (λ x. inr (x.0, omega (arith, x.1), x.2)) q,
        λ q. ⊎_elim (λ x. inl x) (λ x. inr (⊎_elim (λ (z : t ≡ e). absurd (n (subst D z x.2))) (λ (z : t ≢ e). (x.0, omega (arith, x.1), x.2)) (same? t e))) q,
      ))
      m

-- another row is as it was
pub row_other : (w₀ w : List ℕ) (i n : ℕ) (D : ℕ → Type 0) → Marks w (With w₀ (InRow i n D)) → (k : ℕ) → k ≢ i → (t : ℕ) → t < width.slots → (in_row w k t ≡ true) ↔ (in_row w₀ k t ≡ true)
row_other w₀ w i n D m k f t l = let p = m.bits k t l in ((λ q. ⊎_elim (λ x. x) (λ x. absurd (f x.0)) (p.0 q)), λ q. p.1 (inl q))

-- nothing is in the row yet
pub row-none : (w : List ℕ) (i : ℕ) (D : ℕ → Type 0) → Marks w (With w (InRow i 0 D))
row-none w i D = marks-same w (InRow i 0 D) (λ k t q. omega (arith, q.1))

-- a row joined to another
pub marks-join : (w : List ℕ) (k : ℕ) (r w' : List ℕ) → Joined w k r w' → Marks w' (With w (InRow k width.slots (λ t. bit_at r t ≡ true)))
marks-join w k r w' h = record {
  bits = λ i e l. (
    λ q. ⊎_elim
        (λ x. inl x)
        (λ x. let y = (and-eq-true_iff (eqb i k) (bit_at r e)).0 x in inr (eqb-true i k y.0, l, y.1))
        (or_cases (in_row w i e) (eqb i k && bit_at r e) (sym (h i e (omega arith)) ∙ q)),
    λ q. h i e (omega arith) ∙ ⊎_elim
        (λ x. rw x)
        (λ x. or_right (in_row w i e) (eqb i k && bit_at r e) ((and-eq-true_iff (eqb i k) (bit_at r e)).1 (eq-eqb i k x.0, x.2)))
        q,
  );
}

-- the one such slot of a row
pub row_put : (w : List ℕ) (i n t : ℕ) (D : ℕ → Type 0) → t < n → t < width.slots → (i * width.bits + t) / 8 < length w → D t → ((u : ℕ) → u < n → D u → u ≡ t) → Marks (with_bit w (i * width.bits + t)) (With w (InRow i n D))
row_put w i n t D h l room d one = marks-so (with_bit w (i * width.bits + t)) (With w (λ k u. (k ≡ i) × (u ≡ t))) (With w (InRow i n D))
    (λ k u g. (
      λ q. ⊎_elim (λ x. inl x) (λ x. inr (x.0, subst (λ (v : ℕ). v < n) (sym x.1) h, subst D (sym x.1) d)) q,
      λ q. ⊎_elim (λ x. inl x) (λ x. inr (x.0, one u x.1 x.2)) q,
    ))
    (marks-bit w i t l room)

-- A TABLE ROW BY ROW: the rows below k have the slots below n that D names
abbrev pub Upto : ℕ → ℕ → (ℕ → ℕ → Type 0) → ℕ → ℕ → Type 0
Upto k n D e t = (e < k) × (t < n) × D e t

module _ (n : ℕ) (D : ℕ → ℕ → Type 0) where
  pub upto-more : (k : ℕ) (E : ℕ → Type 0) → ((t : ℕ) → t < n → E t ↔ D k t) → (w₀ w w' : List ℕ) → Marks w (With w₀ (Upto k n D)) → Marks w' (With w (InRow k n E)) → Marks w' (With w₀ (Upto (k + 1) n D))
  upto-more k E f w₀ w w' a b = marks-so w' (With w₀ (λ e t. Upto k n D e t ⊎ InRow k n E e t)) (With w₀ (Upto (k + 1) n D))
      (λ e t l. (
        λ q. ⊎_elim (λ x. inl x) (λ x. inr (⊎_elim (λ y. (omega (arith, y.0), y.1, y.2)) (λ y. (omega (arith, y.0), y.1, subst (λ (v : ℕ). D v t) (sym y.0) ((f t y.1).0 y.2))) x)) q,
        λ q. ⊎_elim (λ x. inl x) (λ x. inr (⊎_elim (λ (z : e ≡ k). inr (z, x.1, (f t x.1).1 (subst (λ (v : ℕ). D v t) z x.2))) (λ (z : e ≢ k). inl (omega (arith, x.0), x.1, x.2)) (same? e k))) q,
      ))
      (marks_then w₀ w w' (Upto k n D) (InRow k n E) a b)
