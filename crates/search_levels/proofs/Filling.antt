-- The rows of a level one after the other, and the levels one after the other.
use mathlib.Core.Path.{◌≡◌, refl, sym, ◌∙◌, subst}
use mathlib.Core.Logic.{inr, ⊎_elim, ◌≢◌, ◌↔◌}
use mathlib.Core.Bool.{Bool, true, false, ◌||◌}
use mathlib.Core.List.{List}
use Prim.Native.Nat.{ℕ, suc, ◌+◌, ◌*◌, ◌≤◌, ◌<◌}
use native.Mathlib.Omega.{arith}
use borrow.Author.Tests.{eq-eqb, ne_eqb}
use lib.ListN.{length, replicate, length-replicate}
use Rattle.std.proofs.lemmas.Bool.{cases_Bool}
use Rattle.limits.specs.Limits as limit
use Rattle.semantics.proofs.Tools.{same?, clash}
use Rattle.model.specs.declared.Model.{Model}
use Rattle.facts_bits.specs.Bits.{bit_at, with_bit, in_row, Joined}
use Rattle.search_ways.proofs.Marking.{marks-bit}
use Rattle.std.specs.Prelude.{Option}
use Rattle.search_levels.specs.Levels.{pair_at, Next, Passed}
use Rattle.search_levels.specs.Passing.{Has, Clear, Written}
use Rattle.search_levels.proofs.Rows.{no-bit}

-- A ROW MORE, joined to one that has no bit, is that row, and the others stay
module _ (from f : ℕ) (old rows : List ℕ) (w : Written from (from + f) old rows) (r rows' : List ℕ) (j : Joined rows (from + f) r rows') where
  row_here : (e : ℕ) → e < limit.listed → in_row rows' (from + f) e ≡ bit_at r e
  row_here e l = j (from + f) e (omega arith) ∙ rw (w.clear (from + f) e (omega arith) l, eq-eqb (from + f) (from + f) refl)

  row-there : (i e : ℕ) → i ≢ from + f → e < limit.listed → in_row rows' i e ≡ in_row rows i e
  row-there i e n l = j i e (omega arith) ∙ rw (ne_eqb i (from + f) n) (or_nothing (in_row rows i e))
    where
      or_nothing : (a : Bool) → (a || false) ≡ a
      or_nothing true = refl
      or_nothing false = refl

  pub written-more : length rows' ≡ length rows → Written from (from + (f + 1)) old rows'
  written-more long = record {
    long = long ∙ w.long;
    kept = λ i e l g. row-there i e (λ q. omega arith) g ∙ w.kept i e l g;
    clear = λ i e l g. row-there i e (λ q. omega arith) g ∙ w.clear i e (omega arith) g;
  }

  pub rows_more : (D : ℕ → ℕ → Type 0) → Has r (λ e. D e f) → ((e g : ℕ) → e < limit.listed → g < f → (in_row rows (from + g) e ≡ true) ↔ D e g)
      → (e g : ℕ) → e < limit.listed → g < f + 1 → (in_row rows' (from + g) e ≡ true) ↔ D e g
  rows_more D h before e g l k = ⊎_elim
      (λ (z : g ≡ f). subst (λ (n : ℕ). (in_row rows' (from + n) e ≡ true) ↔ D e n) (sym z)
      (let p = h.bits e l in ((λ q. p.0 (sym (row_here e l) ∙ q)), λ q. row_here e l ∙ p.1 q)))
      (λ (z : g ≢ f). let p = before e g l (omega (arith, z)) in let y = row-there (from + g) e (λ q. z (omega (arith, q))) l in ((λ q. p.0 (sym y ∙ q)), λ q. y ∙ p.1 q))
      (same? g f)

-- the first level has the pair of slots 0 alone
pub begun : (n : ℕ) → 0 < n → (e f : ℕ) → e < limit.listed → f < limit.listed → (pair_at (with_bit (replicate n 0) 0) 0 e f ≡ true) ↔ ((e ≡ 0) × (f ≡ 0))
begun n some e f l h = let p = (marks-bit (replicate n 0) 0 0 (omega arith) (rw length-replicate (omega arith))).bits (limit.listed * 0 + f) e (omega arith) in (
  (λ q. ⊎_elim (λ x. clash x (no-bit n (limit.listed * 0 + f) e (omega arith))) (λ x. (x.1, omega (arith, x.0))) (p.0 q)),
  λ q. p.1 (inr (omega (arith, q.1), q.0)),
)

pub begun-clear : (n : ℕ) → 0 < n → Clear (limit.listed * suc 0) (with_bit (replicate n 0) 0)
begun-clear n some i e l h = let p = (marks-bit (replicate n 0) 0 0 (omega arith) (rw length-replicate (omega arith))).bits i e (omega arith) in
    ⊎_elim (λ q. absurd (⊎_elim (λ x. clash x (no-bit n i e (omega arith))) (λ x. omega (arith, x.0)) (p.0 q))) (λ q. q) (cases_Bool (in_row (with_bit (replicate n 0) 0) i e))

module _ (m : Model) (S w ways : List ℕ) (p : Option (List ℕ)) where
  -- the same pairs on both levels
  module _ (A A' : ℕ → ℕ → Bool) (a : (e f : ℕ) → e < limit.listed → f < limit.listed → A e f ≡ A' e f) where
    next-so : (k e f : ℕ) → Next m S w ways p k A e f → Next m S w ways p k A' e f
    next-so k e f q = let x = q.0 in ((x.0, x.1, x.2, x.3, sym (a x.0 x.1 x.2 x.3) ∙ x.4, x.5, x.6), q.1)

  passed-so : (k : ℕ) (A B A' B' : ℕ → ℕ → Bool) → ((e f : ℕ) → e < limit.listed → f < limit.listed → A e f ≡ A' e f) → ((e f : ℕ) → e < limit.listed → f < limit.listed → B e f ≡ B' e f) → Passed m S w ways p k A B → Passed m S w ways p k A' B'
  passed-so k A B A' B' a b h = record {
    pairs = λ e f l g. let z = h.pairs e f l g in (
      (λ q. next-so A A' a k e f (z.0 (b e f l g ∙ q))),
      λ q. sym (b e f l g) ∙ z.1 (next-so A' A (λ u v i j. sym (a u v i j)) k e f q),
    );
  }

  -- A LEVEL MORE: the stages before stay passed
  module _ (k : ℕ) (old new : List ℕ) (kept : (i e : ℕ) → i < limit.listed * suc k → e < limit.listed → in_row new i e ≡ in_row old i e) where
    level-same : (j : ℕ) → j ≤ k → (e f : ℕ) → e < limit.listed → f < limit.listed → pair_at old j e f ≡ pair_at new j e f
    level-same j h e f l g = sym (kept (limit.listed * j + f) e (omega arith) l)

    pub passed-more : ((j : ℕ) → j < k → Passed m S w ways p j (pair_at old j) (pair_at old (suc j))) → Passed m S w ways p k (pair_at old k) (pair_at new (suc k))
        → (j : ℕ) → j < suc k → Passed m S w ways p j (pair_at new j) (pair_at new (suc j))
    passed-more before last j l = ⊎_elim
        (λ (z : j ≡ k). subst (λ (i : ℕ). Passed m S w ways p i (pair_at new i) (pair_at new (suc i))) (sym z)
        (passed-so k (pair_at old k) (pair_at new (suc k)) (pair_at new k) (pair_at new (suc k)) (level-same k (omega arith)) (λ e f x y. refl) last))
        (λ (z : j ≢ k). passed-so j (pair_at old j) (pair_at old (suc j)) (pair_at new j) (pair_at new (suc j)) (level-same j (omega (arith, l))) (level-same (suc j) (omega (arith, l, z))) (before j (omega (arith, l, z))))
        (same? j k)
