-- A body with more asked of its first variable: slot by slot of a row.
use mathlib.Core.Path.{◌≡◌, refl, sym, subst}
use mathlib.Core.Logic.{◌↔◌}
use mathlib.Core.Bool.{Bool, true, false, cond, false≢true}
use mathlib.Core.List.{List}
use Prim.Native.Nat.{ℕ, ◌≤◌, ◌<◌}
use native.Mathlib.Omega.{arith}
use lib.Dec.{eqb}
use lib.ListN.{length}
use Rattle.limits.specs.Limits as limit
use Rattle.semantics.proofs.Tools.{clash}
use Rattle.model.specs.Literals.{body_of}
use Rattle.facts_bits.specs.Width as width
use Rattle.facts_bits.specs.Bits.{bit_at}
use Rattle.facts_candidates.specs.declared.Choice.{Choice}
use Rattle.facts_candidates.specs.Choices.{element_of}
use Rattle.facts_find.specs.Bodies.{Fixed}
use Rattle.facts_holds.specs.Shows.{Evaluable, Tells}
use Rattle.facts_holds.proofs.Laws.{fixed_more}
use Rattle.std.specs.Bool.{MatchBool}
use Rattle.std.specs.Prelude.{Option, Some, None}
use Rattle.search_levels.specs.Passing.{Aimed, Holding, Over}

module _ (S w body : List ℕ) (v : ℕ) (c : Choice) where
  module _ (some : 0 < v) (able : Evaluable body v) (free : element_of c 0 ≡ None) where
    -- with slot e for the first variable,
    pub told-here : (e : ℕ) (one : Choice) → ((x : ℕ) → x < limit.variables → element_of one x ≡ cond (eqb x 0) (Some e) (element_of c x))
        → (r : Bool) → Tells S w (body_of body (length body)) v one r → (r ≡ true) ↔ Holding S w body v c (λ σ. σ 0 ≡ e)
    told-here e one law r tells = (
      (λ q. let z = tells.0 q in let y = (with-slot z.0).0 z.2 in (z.0, z.1, y.0, y.1)),
      λ h. tells.1 (h.0, h.1, (with-slot h.0).1 (h.2, h.3)),
    )
      where
        with-slot : (σ : ℕ → ℕ) → Fixed v one σ ↔ (Fixed v c σ × (σ 0 ≡ e))
        with-slot = fixed_more c one v 0 e able.body.few some free law

  -- WITH MORE ASKED OF VARIABLE 0
  module _ (p : Option (List ℕ)) (r : Bool) (tells : Tells S w (body_of body (length body)) v c r) where
    module _ (told : r ≡ true) where
      -- or its slot is fixed,
      pub pointed-fixed : (among : List ℕ) → p ≡ Some among → 0 < v → (e : ℕ) → c.first ≡ Some e → (bit_at among e ≡ true) ↔ Holding S w body v c (Aimed p)
      pointed-fixed among g some e l = rw g (
        (λ b. let z = tells.0 told in (z.0, z.1, z.2, subst (λ (i : ℕ). bit_at among i ≡ true) (sym (at z.0 z.2)) b)),
        λ h. subst (λ (i : ℕ). bit_at among i ≡ true) (at h.0 h.2) h.3,
      )
        where
          at : (σ : ℕ → ℕ) → Fixed v c σ → σ 0 ≡ e
          at σ f = f 0 some e l

-- AND WITH SOME SLOT of a row
module _ (w body : List ℕ) (v : ℕ) (c : Choice) (some : 0 < v) (able : Evaluable body v) (row : List ℕ) (n : ℕ) (few : n ≤ limit.listed) where
  pub some-slot : (r : Bool)
      → MatchBool r ((e : ℕ) × (e < width.slots) × (bit_at row e ≡ true) × Over w n (λ S. Holding S w body v c (λ σ. σ 0 ≡ e))) ((e : ℕ) → e < width.slots → bit_at row e ≡ true → Over w n (λ S. Holding S w body v c (λ σ. σ 0 ≡ e) → ⊥))
      → Over w n (λ S. (r ≡ true) ↔ Holding S w body v c (λ σ. bit_at row (σ 0) ≡ true))
  some-slot true (e, l, b, held) = λ S R m. let h = held S R m in ((λ q. (h.0, h.1, h.2, subst (λ (i : ℕ). bit_at row i ≡ true) (sym h.3) b)), λ q. refl)
  some-slot false none = λ S R m. (
    (λ q. absurd (false≢true q)),
    λ h. absurd (none (h.0 0) (omega (arith, h.1.0 0 (able.body.every 0 some), few, m)) h.3 S R m (h.0, h.1, h.2, refl)),
  )

-- what a test says of all states
pub over-said : (w : List ℕ) (n : ℕ) (A : List ℕ → Type 0) (r : Bool) → Over w n (λ S. (r ≡ true) ↔ A S) → r ≡ true → Over w n A
over-said w n A r h q = λ S R m. (h S R m).0 q

pub over-denied : (w : List ℕ) (n : ℕ) (A : List ℕ → Type 0) (r : Bool) → Over w n (λ S. (r ≡ true) ↔ A S) → r ≡ false → Over w n (λ S. A S → ⊥)
over-denied w n A r h q = λ S R m x. clash ((h S R m).1 x) q
