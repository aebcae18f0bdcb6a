-- Rows of slots by value.
use mathlib.Core.Path.{◌≡◌, refl, sym, ap, ◌∙◌, subst}
use mathlib.Core.Logic.{inl, inr, ⊎_elim, ◌↔◌}
use mathlib.Core.Bool.{Bool, true, false}
use mathlib.Core.List.{List}
use Prim.Native.Nat.{ℕ, ◌+◌, ◌*◌, ◌≤◌, ◌<◌}
use native.Mathlib.Omega.{arith}
use lib.ListN.{replicate}
use Rattle.std.proofs.lemmas.Bool.{cases_Bool}
use Rattle.limits.specs.Limits as limit
use Rattle.semantics.proofs.Tools.{clash}
use Rattle.facts_bits.specs.Width as width
use Rattle.facts_bits.specs.Bits.{bit_at, in_row}
use Rattle.facts_bits.proofs.Laws.{full-bits}
use Rattle.facts_bits.proofs.Changing.{before?}
use Rattle.search_ways.specs.Moves.{Marks, With, InRow}
use Rattle.search_ways.proofs.Marking.{marks-none, marks-so}
use Rattle.search_levels.specs.Passing.{Has, Onward}

-- bytes that are 0 have no bit
pub no-bit : (n i e : ℕ) → e < width.slots → in_row (replicate {A = ℕ} n 0) i e ≡ false
no-bit n i e l = ⊎_elim (λ q. absurd (((marks-none n).bits i e l).0 q)) (λ q. q) (cases_Bool (in_row (replicate {A = ℕ} n 0) i e))

-- row 0 of a table is its first row
row_zero : (w : List ℕ) (e : ℕ) → in_row w 0 e ≡ bit_at w e
row_zero w e = ap (bit_at w) (let z : 0 * width.bits + e ≡ e = omega arith in z)

-- the row without a bit
pub has-nothing : (D : ℕ → Type 0) → ((e : ℕ) → e < limit.listed → D e → ⊥) → Has (replicate width.bytes 0) D
has-nothing D f = record { bits = λ e l. ((λ q. clash q (sym (row_zero (replicate width.bytes 0) e) ∙ no-bit width.bytes 0 e (omega arith))), λ q. absurd (f e l q)) }

-- the same slots, said in another way
pub has-so : (r : List ℕ) (D E : ℕ → Type 0) → ((e : ℕ) → e < limit.listed → D e ↔ E e) → Has r D → Has r E
has-so r D E f h = record { bits = λ e l. let g = f e l in let p = h.bits e l in ((λ q. g.0 (p.0 q)), λ q. p.1 (g.1 q)) }

-- the pairs of row 0 that are marked in bytes that were 0
pub has-row : (n : ℕ) (w : List ℕ) (D : ℕ → ℕ → Type 0) → Marks w (With (replicate {A = ℕ} n 0) D) → Has w (D 0)
has-row n w D h = record {
  bits = λ e l. let p = h.bits 0 e (omega arith) in (
    λ q. ⊎_elim (λ x. clash x (no-bit n 0 e (omega arith))) (λ x. x) (p.0 (row_zero w e ∙ q)),
    λ q. sym (row_zero w e) ∙ p.1 (inr q),
  );
}

-- the same pairs are added
with-so : (w₀ w : List ℕ) (D E : ℕ → ℕ → Type 0) → ((i e : ℕ) → e < width.slots → D i e ↔ E i e) → Marks w (With w₀ D) → Marks w (With w₀ E)
with-so w₀ w D E f = marks-so w (With w₀ D) (With w₀ E) (λ i e l. let g = f i e l in (
  λ x. ⊎_elim (λ y. inl y) (λ y. inr (g.0 y)) x,
  λ x. ⊎_elim (λ y. inl y) (λ y. inr (g.1 y)) x,
))

-- A ROW FROM SET BIT TO SET BIT: nothing is passed over
module _ (row : List ℕ) (i j : ℕ) (after : i ≤ j) (clear : (u : ℕ) → i ≤ u → u < j → bit_at row u ≡ false) where
  -- a set bit before the next one was before i
  before : (u : ℕ) → u < j → bit_at row u ≡ true → u < i
  before u l q = ⊎_elim (λ h. h) (λ h. clash q (clear u h l)) (before? u i)

  -- slots of the row
  pub row_on : (w₀ w : List ℕ) (D : ℕ → Type 0) → ((e : ℕ) → D e → bit_at row e ≡ true) → Marks w (With w₀ (InRow 0 i D)) → Marks w (With w₀ (InRow 0 j D))
  row_on w₀ w D f = with-so w₀ w (InRow 0 i D) (InRow 0 j D) (λ k e l. (
    (λ q. (q.0, omega (arith, q.1, after), q.2)),
    λ q. (q.0, before e q.1 (f e q.2), q.2),
  ))

-- THE UNION OF ROWS of a table, from those of the matrix below n that are picked
module _ (table : List ℕ) (at : ℕ) (picked : List ℕ) where
  abbrev pub PickedBelow : ℕ → ℕ → Type 0
  PickedBelow n e = (u : ℕ) × (u < n) × (u < limit.listed) × (bit_at picked u ≡ true) × (in_row table (at + u) e ≡ true)

-- WHERE AN OBJECT GOES: nowhere else as long as its variable does not stand in the stage, anywhere the first time, and then where `ways` says
module _ (ways row : List ℕ) where
  pub onward-same : (c : Bool) → Has row (Onward ways false c (λ u. bit_at row u ≡ true))
  onward-same c = record { bits = λ e l. ((λ q. (e, l, q, refl)), λ q. subst (λ (u : ℕ). bit_at row u ≡ true) q.3 q.2) }

  pub onward-any : bit_at row 0 ≡ true → Has (replicate width.bytes 255) (Onward ways true false (λ u. bit_at row u ≡ true))
  onward-any q = record { bits = λ e l. ((λ x. (0, omega arith, q, refl)), λ x. full-bits e (omega arith)) }

  pub onward-none : bit_at row 0 ≡ false → Has (replicate width.bytes 0) (Onward ways true false (λ u. bit_at row u ≡ true))
  onward-none q = has-nothing (Onward ways true false (λ u. bit_at row u ≡ true)) (λ e l x. clash (subst (λ (u : ℕ). bit_at row u ≡ true) x.3 x.2) q)
