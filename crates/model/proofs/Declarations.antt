-- The codes of declared relations, and sets of them.
use mathlib.Core.Path.{◌≡◌}
use mathlib.Core.Logic.{⊎_elim}
use mathlib.Core.Bool.{true, false}
use mathlib.Core.List.{List, [], ◌∷◌, ◌++◌}
use Prim.Native.Nat.{ℕ, suc, ◌+◌, ◌^◌, ◌<◌}
use native.Mathlib.Omega.{arith}
use native.Mathlib.Decide.{dec_le}
use lib.Dec.{eqb}
use Rattle.std.proofs.lemmas.Bool.{cases_Bool}
use Rattle.semantics.specs.Labels.{has}
use Rattle.semantics.proofs.Tools.{clash}
use Rattle.semantics.proofs.Sets.{has-beyond}
use Rattle.model.specs.WellFormed.{class_of, in_class}

-- one code more
pub in_class-snoc : (k r : ℕ) (rs : List ℕ) → in_class k (rs ++ (r ∷ [])) ≡ in_class k rs + in_class k (r ∷ [])
in_class-snoc k r [] = omega arith
in_class-snoc k r (s ∷ rs) =
    ⊎_elim
    (λ (q : eqb (class_of s) k ≡ true). rw (q, in_class-snoc k r rs) (omega arith))
    (λ (q : eqb (class_of s) k ≡ false). rw (q, in_class-snoc k r rs))
    (cases_Bool (eqb (class_of s) k))

-- a relation of a set below 2^k is below k
pub set_below : (s a k : ℕ) → s < 2 ^ k → has s a ≡ true → a < k
set_below s a k h e = go (dec_le (suc a) k)
  where
    go : Dec (a < k) → a < k
    go (yes l) = l
    go (no l) = clash e (has-beyond s a k h (omega arith))
