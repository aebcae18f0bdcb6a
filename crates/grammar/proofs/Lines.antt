-- A text has no more lines than bytes.
use mathlib.Core.Path.{◌≡◌}
use mathlib.Core.Logic.{⊎_elim}
use mathlib.Core.Bool.{true, false}
use mathlib.Core.List.{List, [], ◌∷◌}
use Prim.Native.Nat.{ℕ, suc, ◌≤◌}
use native.Mathlib.Omega.{arith}
use lib.Dec.{eqb}
use lib.ListN.{length}
use Rattle.std.proofs.lemmas.Bool.{cases_Bool}
use Rattle.grammar.specs.Bytes.{Line, ended, unended, in_front, lines}

length_front : (b : ℕ) (ls : List Line) → length (in_front b ls) ≤ suc (length ls)
length_front b [] = omega arith
length_front b (ended s ∷ ls) = omega arith
length_front b (unended s ∷ ls) = omega arith

pub length-lines : (s : List ℕ) → length (lines s) ≤ length s
length-lines [] = omega arith
length-lines (b ∷ s) =
    let h = length-lines s in
    ⊎_elim (λ (q : eqb b 10 ≡ true). rw q (omega arith)) (λ (q : eqb b 10 ≡ false). rw q (let z = length_front b (lines s) in omega arith)) (cases_Bool (eqb b 10))
