-- The marked variables, collected one after the other.
use mathlib.Core.Path.{◌≡◌, refl, sym, ap, ◌∙◌}
use mathlib.Core.Logic.{⊎_elim}
use mathlib.Core.Bool.{Bool, true, false, cond}
use mathlib.Core.List.{List, [], ◌∷◌, ◌++◌, append-nil}
use Prim.Native.Nat.{ℕ, zero, suc, ◌+◌, ◌-◌, ◌≤◌, ◌<◌}
use native.Mathlib.Nat.{zero-add, add-zero, suc-add}
use native.Mathlib.Omega.{arith}
use lib.ListN.{length, set, length-append}
use borrow.Author.Tests.{lt-ltb, le-ltb}
use Rattle.std.proofs.lemmas.Bool.{cases_Bool}
use Rattle.std.specs.Prelude.{Some, None}
use Rattle.limits.specs.Limits as limit
use Rattle.semantics.specs.Models.{only}
use Rattle.model.specs.Records.{up_from, padded}
use Rattle.text_carried.specs.Asking.{marked, carriers_of}
use Rattle.text_scope.specs.Scopes as scopes
use Rattle.text_scope.specs.declared.Scope.{Scope}

-- CELLS with one more
padded-more : (n : ℕ) (xs : List ℕ) (x : ℕ) → length xs < n → set (padded n xs) (length xs) x ≡ padded n (xs ++ (x ∷ []))
padded-more zero xs x h = absurd (omega arith)
padded-more (suc n) [] x h = refl
padded-more (suc n) (y ∷ xs) x h = ap {B = List ℕ} (λ (l : List ℕ). y ∷ l) (padded-more n xs x (omega arith))

-- WHAT A TEST LEAVES of the numbers from k on, in two parts
only_parts : (f : ℕ → Bool) (k a b : ℕ) → only f (up_from k (a + b)) ≡ only f (up_from k a) ++ only f (up_from (k + a) b)
only_parts f k zero b = rw (zero-add, add-zero)
only_parts f k (suc a) b = let z : suc k + a ≡ k + suc a = omega arith in
    rw (suc-add, only_parts f (suc k) a b, z) (⊎_elim (λ (q : f k ≡ true). rw q) (λ (q : f k ≡ false). rw q) (cases_Bool (f k)))

only_none : (f : ℕ → Bool) (k n : ℕ) → ((i : ℕ) → k ≤ i → f i ≡ false) → only f (up_from k n) ≡ []
only_none f k zero h = refl
only_none f k (suc n) h = rw (h k (omega arith)) (only_none f (suc k) n (λ i l. h i (omega arith)))

module _ (t : Scope limit.asked) where
  -- whether variable i is marked, and the marked ones of the first n
  abbrev pub mark : ℕ → Bool
  mark i = scopes.mark t i

  abbrev pub up_to : ℕ → List ℕ
  up_to n = only mark (up_from 0 n)

  marked-parts : (n : ℕ) → n ≤ limit.asked → marked t ≡ up_to n ++ only mark (up_from n (limit.asked - n))
  unfolding marked
  marked-parts n h = let z : limit.asked ≡ n + (limit.asked - n) = omega arith in ap up_to z ∙ only_parts mark 0 n (limit.asked - n) ∙ rw zero-add

  -- where none is marked from n on
  pub marked-below : (n : ℕ) → n ≤ limit.asked → ((i : ℕ) → n ≤ i → mark i ≡ false) → marked t ≡ up_to n
  marked-below n h none = marked-parts n h ∙ rw (only_none mark n (limit.asked - n) none) (append-nil (up_to n))

  one_more : (n : ℕ) → up_to (n + 1) ≡ up_to n ++ cond (mark n) (n ∷ []) []
  one_more n = only_parts mark 0 n 1 ∙ rw zero-add

  -- THE CELLS hold the marked ones of the first n
  pub record Collected (row : List ℕ) (k n : ℕ) : Type 0 where
    pub below : n ≤ limit.asked
    pub found : k ≡ length (up_to n)
    pub few : k ≤ limit.carried
    pub cells : row ≡ padded limit.carried (up_to n)

  module _ {row : List ℕ} {k n : ℕ} (so : Collected row k n) where
    -- one that is not marked
    pub collected-skip : n < limit.asked → mark n ≡ false → Collected row k (n + 1)
    collected-skip h q =
        let z : up_to (n + 1) ≡ up_to n = one_more n ∙ rw q (append-nil (up_to n)) in
        record { below = omega arith; found = so.found ∙ ap length (sym z); few = so.few; cells = so.cells ∙ ap (padded limit.carried) (sym z) }

    -- one that is marked
    module _ (h : n < limit.asked) (q : mark n ≡ true) where
      with_it : up_to (n + 1) ≡ up_to n ++ (n ∷ [])
      with_it = one_more n ∙ rw q

      pub collected-mark : k < limit.carried → Collected (set row k n) (k + 1) (n + 1)
      collected-mark l = record {
        below = omega arith;
        found = omega (arith, so.found, ap length with_it, length-append (up_to n) (n ∷ []));
        few = omega arith;
        cells = rw (so.found, so.cells, with_it) (padded-more limit.carried (up_to n) n (omega (arith, so.found)));
      }

      -- and finds no cell
      pub collected-many : k ≡ limit.carried → None ≡ carriers_of t
      collected-many e =
          let d = marked-parts (n + 1) (omega arith) in
          let p : length (marked t) ≡ length (up_to (n + 1)) + length (only mark (up_from (n + 1) (limit.asked - (n + 1)))) = ap length d ∙ length-append (up_to (n + 1)) (only mark (up_from (n + 1) (limit.asked - (n + 1)))) in
          rw (lt-ltb limit.carried (length (marked t)) (omega (arith, p, so.found, ap length with_it, length-append (up_to n) (n ∷ []))))

    pub collected-all : n ≡ limit.asked → Some row ≡ carriers_of t
    unfolding marked
    collected-all e = rw (so.cells, e, le-ltb limit.carried (length (up_to limit.asked)) (omega (arith, so.found, so.few, ap (λ (j : ℕ). length (up_to j)) e)))
