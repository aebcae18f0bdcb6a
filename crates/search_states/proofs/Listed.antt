-- THE LISTED STATES are settled: there is one list of the reachable states in the listing's order.
use mathlib.Core.Path.{◌≡◌, refl, sym, ap, ◌∙◌, subst}
use mathlib.Core.Logic.{⊎_elim}
use mathlib.Core.Bool.{true, false≢true}
use mathlib.Core.List.{List, [], ◌∷◌, ◌++◌}
use Prim.Native.Nat.{ℕ, suc, ◌-◌, ◌≤◌, ◌<◌}
use native.Mathlib.Omega.{arith}
use borrow.Author.Tests.{eqb-true}
use lib.Dec.{eqb}
use lib.ListN.{length, take, drop, replicate, take-append-drop}
use lib.Seq.{length-take-le, get_or-take}
use Rattle.std.proofs.lemmas.Bool.{or_cases}
use Rattle.limits.specs.Limits as limit
use Rattle.semantics.specs.Models.{elem, Program}
use Rattle.semantics.specs.Tables.{seat}
use Rattle.semantics.proofs.Tools.{or_right, elem-here, seat-ok}
use Rattle.search_states.specs.Rising.{Rising}
use Rattle.search_states.specs.Listed.{Listed}

-- A RISING LIST is settled by its numbers
abbrev Rises : List ℕ → Type 0
Rises xs = Rising xs (length xs)

tail-rises : (x : ℕ) (xs : List ℕ) → Rises (x ∷ xs) → Rises xs
tail-rises x xs h i j a b = h (suc i) (suc j) (omega arith) (omega arith)

above : (x : ℕ) (xs : List ℕ) → Rises (x ∷ xs) → (y : ℕ) → elem y xs ≡ true → x < y
above x xs h y e = let q = seat-ok y xs e in subst (λ (z : ℕ). x < z) q.1 (h 0 (suc (seat y xs)) (omega arith) (let r = q.0 in omega arith))

-- the first number is the least
least : (x : ℕ) (xs : List ℕ) → Rises (x ∷ xs) → (y : ℕ) → elem y (x ∷ xs) ≡ true → x ≤ y
least x xs h y e = ⊎_elim (λ (q : eqb y x ≡ true). omega (arith, eqb-true y x q)) (λ (q : elem y xs ≡ true). omega (arith, above x xs h y q)) (or_cases (eqb y x) (elem y xs) e)

-- the others are those above it
later : (x : ℕ) (xs : List ℕ) (y : ℕ) → x < y → elem y (x ∷ xs) ≡ true → elem y xs ≡ true
later x xs y l e = ⊎_elim (λ (q : eqb y x ≡ true). absurd (omega (arith, eqb-true y x q))) (λ (q : elem y xs ≡ true). q) (or_cases (eqb y x) (elem y xs) e)

same-rising : (xs ys : List ℕ) → Rises xs → Rises ys → ((z : ℕ) → elem z xs ≡ true → elem z ys ≡ true) → ((z : ℕ) → elem z ys ≡ true → elem z xs ≡ true) → xs ≡ ys
same-rising [] [] g h to fro = refl
same-rising [] (y ∷ ys) g h to fro = absurd (false≢true (fro y (elem-here y ys)))
same-rising (x ∷ xs) [] g h to fro = absurd (false≢true (to x (elem-here x xs)))
same-rising (x ∷ xs) (y ∷ ys) g h to fro =
    let a = least y ys h x (to x (elem-here x xs)) in
    let b = least x xs g y (fro y (elem-here y ys)) in
    let e : x ≡ y = omega arith in
    let rest : xs ≡ ys = same-rising xs ys (tail-rises x xs g) (tail-rises y ys h)
    (λ z m. later y ys z (let l = above x xs g z m in omega arith) (to z (or_right (eqb z x) (elem z xs) m)))
    (λ z m. later x xs z (let l = above y ys h z m in omega arith) (fro z (or_right (eqb z y) (elem z ys) m))) in
    ap (λ (w : ℕ). w ∷ xs) e ∙ ap (λ (ws : List ℕ). y ∷ ws) rest

-- THE STATES and their number
module _ (P : Program) (states : List ℕ) (n : ℕ) (h : Listed P states n) (long : length states ≡ limit.listed) where
  first-long : length (take n states) ≡ n
  first-long = length-take-le n states (let c = h.count in omega arith)

  first-rises : Rises (take n states)
  first-rises i j a b =
      let k : j < n = (let f = first-long in omega arith) in
      rw (get_or-take n states i 0 (omega arith), get_or-take n states j 0 k) (h.rising i j a k)

pub states-settled : (P : Program) (s t : List ℕ) (n k : ℕ) → length s ≡ limit.listed → length t ≡ limit.listed → Listed P s n → Listed P t k → (s ≡ t) × (n ≡ k)
states-settled P s t n k p q g h = (sym (take-append-drop n s) ∙ ap (λ (l : List ℕ). l ++ drop n s) first ∙ ap (λ (l : List ℕ). take k t ++ l) rest ∙ take-append-drop k t, count)
  where
    first : take n s ≡ take k t
    first = same-rising (take n s) (take k t) (first-rises P s n g p) (first-rises P t k h q)
        (λ z e. (h.reachable z).0 ((g.reachable z).1 e)) (λ z e. (g.reachable z).0 ((h.reachable z).1 e))

    count : n ≡ k
    count = sym (first-long P s n g p) ∙ ap length first ∙ first-long P t k h q

    rest : drop n s ≡ drop k t
    rest = g.rest ∙ ap (λ (i : ℕ). replicate (limit.listed - i) 0) count ∙ sym h.rest
