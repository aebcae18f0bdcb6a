-- How a lineage goes back from a state to the one that it came from.
use mathlib.Core.Path.{◌≡◌, refl, ap, subst}
use mathlib.Core.Logic.{⊎_elim}
use mathlib.Core.Bool.{true, false, false≢true}
use mathlib.Core.List.{List, [], ◌∷◌, ◌++◌}
use Prim.Native.Nat.{ℕ, zero, suc, ◌<◌}
use native.Mathlib.Omega.{arith}
use native.Mathlib.Nat.{not-suc-le-zero}
use lib.ListN.{length, take, get_or}
use lib.Seq.{length-take-le}
use Rattle.limits.specs.Limits as limit
use Rattle.semantics.specs.Models.{Line, rule, new, next, other, Program, line}
use Rattle.semantics.specs.Facts.{Database}
use Rattle.semantics.specs.Tables.{From, Founded}
use Rattle.semantics.specs.Building.{grown, lineage}
use Rattle.semantics.proofs.Tools.{clash}
use Rattle.model.specs.declared.Model.{Model}
use Rattle.model.specs.Records.{program_of}
use Rattle.model.specs.WellFormed.{WellFormed}
use Rattle.model.proofs.Lines.{clause-or-other}
use Rattle.witness_lineage.specs.Lineage.{is_new}

module _ (P : Program) (S : Database) (by from : ℕ → ℕ) (found : Founded P S by from) where
  -- a state that came by a `next` line came from an earlier one
  pub earlier : (i : ℕ) → i < length S → (x plus minus : ℕ) (b : _) → From P (take i S) (get_or S i 0) (from i) (next x plus minus b) → from i < i
  earlier i m x plus minus b f = rw (length-take-le i S (omega arith)) at f.0

  -- the lines that make a state are the same, however far back one may look
  pub lineage-enough : (n k i : ℕ) → i < n → i < k → i < length S → lineage P by from n i ≡ lineage P by from k i
  lineage-enough zero k i h g m = absurd (not-suc-le-zero h)
  lineage-enough (suc n) zero i h g m = absurd (not-suc-le-zero g)
  lineage-enough (suc n) (suc k) i h g m = go (λ p c d e. lineage-enough n k p c d e) (line P (by i)) (found i m)
    where
      go : ((p : ℕ) → p < n → p < k → p < length S → lineage P by from n p ≡ lineage P by from k p)
          → (L : Line) → From P (take i S) (get_or S i 0) (from i) L → grown L (lineage P by from n (from i)) (by i) ≡ grown L (lineage P by from k (from i)) (by i)
      go ih (rule r xs b) f = refl
      go ih (new s b) f = refl
      go ih (next x plus minus b) f =
          let l : from i < i = earlier i m x plus minus b f in
          ap (λ (ls : List ℕ). ls ++ (by i ∷ [])) (ih (from i) (omega arith) (omega arith) (omega arith))
      go ih other f = refl

  -- a state that a `new` line made
  pub lineage-new : (i : ℕ) → i < length S → is_new (line P (by i)) ≡ true → lineage P by from (suc i) i ≡ by i ∷ []
  lineage-new i m e = go (line P (by i)) e
    where
      go : (L : Line) → is_new L ≡ true → grown L (lineage P by from i (from i)) (by i) ≡ by i ∷ []
      go (rule r xs b) q = absurd (false≢true q)
      go (new s b) q = refl
      go (next x plus minus b) q = absurd (false≢true q)
      go other q = absurd (false≢true q)

  -- any other came from an earlier state, and its line is the last
  pub lineage-next : (i : ℕ) → i < length S → is_new (line P (by i)) ≡ false
      → (from i < i) × (lineage P by from (suc i) i ≡ lineage P by from (suc (from i)) (from i) ++ (by i ∷ []))
  lineage-next i m e = go (line P (by i)) (found i m) e
    where
      go : (L : Line) → From P (take i S) (get_or S i 0) (from i) L → is_new L ≡ false
          → (from i < i) × (grown L (lineage P by from i (from i)) (by i) ≡ lineage P by from (suc (from i)) (from i) ++ (by i ∷ []))
      go (rule r xs b) f q = absurd f
      go (new s b) f q = clash refl q
      go (next x plus minus b) f q =
          let l : from i < i = earlier i m x plus minus b f in
          (l, ap (λ (ls : List ℕ). ls ++ (by i ∷ [])) (lineage-enough i (suc (from i)) (from i) l (omega arith) (omega arith)))
      go other f q = absurd f

-- what stands on a line stands on one of the text's
pub small_line : (m : Model) → WellFormed m → (R : Line → Type 0) → (R other → ⊥) → (ℓ : ℕ) → R (line (program_of m) ℓ) → ℓ < limit.text
small_line m w R never ℓ h =
    ⊎_elim
    (λ t. let a = (w.clause t.0 t.1).last in let b = w.lines in let e = t.2 in omega arith)
    (λ t. absurd (never (subst R t.1 h)))
    (clause-or-other m ℓ)
