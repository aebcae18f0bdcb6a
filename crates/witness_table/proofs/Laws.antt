-- Writing places the last first.
use mathlib.Core.Path.{◌≡◌, refl, ◌∙◌}
use mathlib.Core.List.{List, [], ◌∷◌, ◌++◌, map, map-append, reverse, reverse-append, reverse-reverse}
use mathlib.Core.Option.{some}
use Prim.Native.Nat.{ℕ, suc, ◌+◌, ◌≤◌}
use native.Mathlib.Omega.{arith}
use native.Mathlib.Nat.{add-suc, suc-add, add-zero, zero-add}
use lib.ListN.{length, take, drop, set, length-map, length-reverse}
use lib.Seq.{sets, length-sets, sets-eq, take_at, drop_at}
use Rattle.semantics.specs.Runs.{Place}
use Rattle.model.specs.Places.{number_of, place_of}
use Rattle.model.proofs.Places.{place-of-number}
use Rattle.witness_table.specs.Runs.{numbers, AllNumerable, backwards}

sets-append : (l : List ℕ) (k : ℕ) (xs ys : List ℕ) → sets (sets l k xs) (k + length xs) ys ≡ sets l k (xs ++ ys)
sets-append l k [] ys = rw add-zero
sets-append l k (x ∷ xs) ys = rw (add-suc, ← suc-add) (sets-append (set l k x) (suc k) xs ys)

length-numbers : (ps : List Place) → length (reverse (numbers ps)) ≡ length ps
length-numbers ps = length-reverse (numbers ps) ∙ length-map ps number_of

pub length-backwards : (run : List ℕ) (k : ℕ) (ps : List Place) → length (backwards run k ps) ≡ length run
unfolding backwards
length-backwards run k ps = length-sets run k (reverse (numbers ps))

pub backwards-none : (run : List ℕ) (k : ℕ) → backwards run k [] ≡ run
unfolding backwards
backwards-none run k = refl

-- the places qs come before ps in the run, and behind them in the table
pub backwards-on : (run : List ℕ) (k : ℕ) (ps qs : List Place) → backwards (backwards run k ps) (k + length ps) qs ≡ backwards run k (qs ++ ps)
unfolding backwards
backwards-on run k ps qs =
    rw (map-append, reverse-append, ← length-numbers ps) (sets-append run k (reverse (numbers ps)) (reverse (numbers qs)))

pub set-backwards : (l : List ℕ) (i : ℕ) (p : Place) → set l i (number_of p) ≡ backwards l i (p ∷ [])
unfolding backwards
set-backwards l i p = refl

-- one more place
pub backwards-more : (run : List ℕ) (k : ℕ) (ps : List Place) (p : Place) → set (backwards run k ps) (k + length ps) (number_of p) ≡ backwards run k (p ∷ ps)
backwards-more run k ps p = set-backwards (backwards run k ps) (k + length ps) p ∙ backwards-on run k ps (p ∷ [])

-- turned round, the table begins with the run
pub turned : (run : List ℕ) (ps : List Place) → length ps ≤ length run
    → reverse (take (length ps) (backwards run 0 ps)) ++ drop (length ps) (backwards run 0 ps) ≡ numbers ps ++ drop (length ps) run
unfolding backwards
turned run ps h =
    rw (
      sets-eq (reverse (numbers ps)) run 0 (omega (arith, length-numbers ps)),
      zero-add,
      length-numbers ps,
      take_at (reverse (numbers ps)) (drop (length ps) run) (length ps) (length-numbers ps),
      drop_at (reverse (numbers ps)) (drop (length ps) run) (length ps) (length-numbers ps),
      reverse-reverse,
    )

pub numerable-append : (ps qs : List Place) → AllNumerable ps → AllNumerable qs → AllNumerable (ps ++ qs)
numerable-append [] qs h k = k
numerable-append (p ∷ ps) qs h k = (h.0, numerable-append ps qs h.1 k)

-- the numbers stand for the places
pub decoded-numbers : (ps : List Place) → AllNumerable ps → map place_of (numbers ps) ≡ map some ps
decoded-numbers [] h = refl
decoded-numbers (p ∷ ps) h = rw (place-of-number p h.0, decoded-numbers ps h.1)
