-- The cells of a record, and the record of cells.
use mathlib.Core.Path.{◌≡◌, refl, sym, ap, ap₂, ◌∙◌}
use mathlib.Core.Logic.{⊎_elim, ◌≢◌}
use borrow.Author.Tests.{eq-eqb, ne_eqb}
use Rattle.std.specs.Prelude.{IfSome}
use Rattle.semantics.proofs.Tools.{same?}
use Rattle.replay_meetings.specs.Carried.{object_of}
use mathlib.Core.List.{List, [], ◌∷◌, ◌++◌}
use Prim.Native.Nat.{ℕ, ◌+◌, ◌<◌}
use native.Mathlib.Omega.{arith}
use lib.ListN.{length, take, drop, get_or, replicate, take-append-drop}
use lib.Seq.{drop-cons, drop-length}
use Rattle.limits.specs.Limits as limit
use Rattle.analyzer_verdict.specs.Judging.{refusal}
use Rattle.exports.specs.Cells.{table, state_of, cell_of, cells_of}

-- beside a refusal they are zero
pub zero-beside-refusal : (n l : ℕ) → table (refusal n l) 0 ≡ replicate (limit.listed + 2) 0
zero-beside-refusal n l = refl

-- the cell of a cell's object is the cell, and the object of a small one is small
cell-there : (n : ℕ) → cell_of (object_of n) ≡ n
cell-there n = ⊎_elim (λ (e : n ≡ 255). rw (eq-eqb n 255 e) (sym e)) (λ (e : n ≢ 255). rw (ne_eqb n 255 e)) (same? n 255)

pub object-small : (n k : ℕ) → n < k → IfSome (object_of n) (λ o. o < k)
object-small n k l = ⊎_elim (λ (e : n ≡ 255). rw (eq-eqb n 255 e) tt) (λ (e : n ≢ 255). rw (ne_eqb n 255 e) l) (same? n 255)

-- a state that is left leaves its cells
pub cells_left : (cells : List ℕ) → length cells ≡ 260 → cells_of (state_of cells) ≡ cells
cells_left cells h =
    ap₂ {C = List ℕ} (λ (x y : ℕ). take 255 cells ++ (get_or cells 255 0 ∷ get_or cells 256 0 ∷ x ∷ y ∷ get_or cells 259 0 ∷ [])) (cell-there (get_or cells 257 0)) (cell-there (get_or cells 258 0))
    ∙ sym (ap (λ (r : List ℕ). take 255 cells ++ r) rest) ∙ take-append-drop 255 cells
  where
    rest : drop 255 cells ≡ get_or cells 255 0 ∷ get_or cells 256 0 ∷ get_or cells 257 0 ∷ get_or cells 258 0 ∷ get_or cells 259 0 ∷ []
    rest =
        rw (drop-cons cells 255 0 (omega arith), drop-cons cells 256 0 (omega arith), drop-cons cells 257 0 (omega arith), drop-cons cells 258 0 (omega arith), drop-cons cells 259 0 (omega arith))
        (rw h at (ap (λ (r : List ℕ). get_or cells 255 0 ∷ get_or cells 256 0 ∷ get_or cells 257 0 ∷ get_or cells 258 0 ∷ get_or cells 259 0 ∷ r) (drop-length cells)))
