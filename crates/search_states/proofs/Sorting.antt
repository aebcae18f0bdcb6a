-- The states of a row, sorted.
use mathlib.Core.Path.{◌≡◌, refl, sym, ap, ◌∙◌, subst}
use mathlib.Core.Logic.{inl, inr, ⊎_elim, ◌≢◌, ◌↔◌}
use mathlib.Core.Bool.{Bool, true, false}
use mathlib.Core.List.{List, ◌∷◌, ◌++◌}
use mir.Val.{bool_byte}
use Prim.Native.Nat.{ℕ, zero, suc, ◌+◌, ◌-◌, ◌≤◌, ◌<◌}
use native.Mathlib.Omega.{arith}
use borrow.Author.Tests.{eqb-true, ltb-true, ltb-false}
use borrow.Rule.Slice.PartMut.{put_mid}
use lib.Dec.{eqb, ltb}
use lib.ListN.{length, take, drop, get_or, replicate, length-append, length-replicate, take-append-drop}
use lib.Seq.{length-take-le, get_or-take}
use Rattle.std.proofs.lemmas.Bool.{cases_Bool, or_cases}
use Rattle.std.proofs.lemmas.List.{get_or-drop, length-drop, length-take, drop-replicate}
use Rattle.std.proofs.lemmas.List.Sorted.{length_permutation, IsPermutation-sym, Contains-permutation}
use Rattle.std.proofs.lemmas.Slice.{take-put_mid, take-put_mid_below, drop-put_mid, between-put_mid}
use Rattle.std.specs.List.Sorted.{IsPermutation, IsNonDecreasing}
use Rattle.std.proofs.iter.runs.Made.{zero_default}
use Rattle.limits.specs.Limits as limit
use Rattle.semantics.specs.Models.{elem, Distinct}
use Rattle.semantics.specs.Tables.{seat}
use Rattle.semantics.proofs.Tools.{same?, clash, or_right, distinct-length, seat-ok, elem-left, elem-right}
use Rattle.search_states.specs.declared.States.{States}
use Rattle.search_states.specs.States.{row, Known, Proper}
use Rattle.search_states.specs.Rising.{Lists}
use Rattle.search_states.proofs.Seats.{elem-get_or}
use Rattle.search_states.proofs.Laws.{length-row}

-- THE SAME NUMBERS in another order
same-elem : (xs ys : List ℕ) → IsPermutation xs ys → (x : ℕ) → elem x xs ≡ true → elem x ys ≡ true
same-elem xs ys p x e =
    let q = seat-ok x xs e in
    let c = Contains-permutation xs ys x p (seat x xs, q.0, zero_default xs (seat x xs) x q.0 ∙ q.1) in
    subst (λ (y : ℕ). elem y ys ≡ true) (sym (zero_default ys c.0 x c.1) ∙ c.2) (elem-get_or ys c.0 c.1)

-- different numbers that do not fall rise
module _ (xs ys : List ℕ) (distinct : Distinct xs) (p : IsPermutation xs ys) (up : IsNonDecreasing ys) where
  module _ (i j : ℕ) (l : i < j) (h : j < length ys) where
    abbrev rest : List ℕ
    rest = take i ys ++ drop (suc i) ys

    shorter : length rest ≡ length ys - 1
    shorter = omega (arith, length-append (take i ys) (drop (suc i) ys), length-take-le i ys (omega arith), length-drop (suc i) ys)

    late : (k : ℕ) → i < k → k < length ys → elem (get_or ys k 0) rest ≡ true
    late k a b =
        let n = k - suc i in
        let at : suc i + n ≡ k = omega arith in
        elem-right (get_or ys k 0) (take i ys) (drop (suc i) ys)
        (subst (λ (y : ℕ). elem y (drop (suc i) ys) ≡ true) (get_or-drop (suc i) ys n 0 ∙ ap (λ (m : ℕ). get_or ys m 0) at) (elem-get_or (drop (suc i) ys) n (omega (arith, length-drop (suc i) ys))))

    -- all numbers are in the rest, if number i is there again
    within : get_or ys i 0 ≡ get_or ys j 0 → (x : ℕ) → elem x xs ≡ true → elem x rest ≡ true
    within same x e =
        let q = seat-ok x ys (same-elem xs ys p x e) in
        let k = seat x ys in
        ⊎_elim
        (λ (z : k ≡ i). subst (λ (y : ℕ). elem y rest ≡ true) (sym same ∙ ap (λ (m : ℕ). get_or ys m 0) (sym z) ∙ q.1) (late j l h))
        (λ (z : k ≢ i). ⊎_elim
        (λ (b : ltb k i ≡ true). let c = ltb-true k i b in
        elem-left x (take i ys) (drop (suc i) ys) (subst (λ (y : ℕ). elem y (take i ys) ≡ true) (get_or-take i ys k 0 c ∙ q.1) (elem-get_or (take i ys) k (omega (arith, c, length-take-le i ys (omega arith))))))
        (λ (b : ltb k i ≡ false). subst (λ (y : ℕ). elem y rest ≡ true) q.1 (late k (omega (arith, z, ltb-false k i b)) q.0))
        (cases_Bool (ltb k i)))
        (same? k i)

    rises : get_or ys i 0 < get_or ys j 0
    rises = omega (arith, up i j 0 (omega arith) h, different)
      where
        different : get_or ys i 0 ≢ get_or ys j 0
        different same = omega (arith, shorter, h, distinct-length xs rest distinct (within same), length_permutation xs ys p)

-- THE PLACES of the row behind the empty state
abbrev pub zeros : List ℕ
zeros = replicate limit.listed 0

module _ (s : States) (proper : Proper s) (f k : ℕ) (at : f ≡ bool_byte s.empty) (size : k ≡ s.count) where
  small : f ≤ 1
  small = rw at (go s.empty)
    where
      go : (b : Bool) → bool_byte b ≤ 1
      go true = omega arith
      go false = omega arith

  pub mid-row : take k (drop f (put_mid f k zeros (row s))) ≡ row s
  mid-row =
      let e : k ≡ f + k - f = omega arith in
      ap (λ (n : ℕ). take n (drop f (put_mid f k zeros (row s)))) e ∙ between-put_mid f k zeros (row s) (f + k) (omega (arith, small)) (length-row s proper ∙ sym size ∙ e)

-- THE ROW SORTED, behind the empty state if it is found
module _ (s : States) (proper : Proper s) (ys : List ℕ) (p : IsPermutation (row s) ys) (up : IsNonDecreasing ys) where
  many : length ys ≡ s.count
  many = length_permutation (row s) ys p ∙ length-row s proper

  back : (t : ℕ) → elem t ys ≡ true → elem t (row s) ≡ true
  back = same-elem ys (row s) (IsPermutation-sym (row s) ys p)

  abbrev Rises : List ℕ → Type 0
  Rises xs = (i j : ℕ) → i < j → j < length xs → get_or xs i 0 < get_or xs j 0

  in-order : (b : Bool) → s.empty ≡ b → Rises (take (bool_byte b) zeros ++ ys) × ((t : ℕ) → elem t (take (bool_byte b) zeros ++ ys) ≡ true ↔ Known s t)
  in-order false e = (
    (λ i j l h. rises (row s) ys proper.distinct p up i j l h),
    λ t. ((λ q. inr (back t q)), λ k. ⊎_elim (λ q. clash q.1 e) (λ q. same-elem (row s) ys p t q) k),
  )
  in-order true e = (
    first,
    λ t. (
      λ q. ⊎_elim (λ z. inl (eqb-true t 0 z, e)) (λ z. inr (back t z)) (or_cases (eqb t 0) (elem t ys) q),
      λ k. ⊎_elim (λ q. rw q.0) (λ q. or_right (eqb t 0) (elem t ys) (same-elem (row s) ys p t q)) k,
    ),
  )
    where
      first : Rises (0 ∷ ys)
      first i zero l h = absurd (omega arith)
      first zero (suc j) l h = let k : j < length ys = omega arith in omega (arith, (proper.atomic (get_or ys j 0) (back (get_or ys j 0) (elem-get_or ys j k))).0)
      first (suc i) (suc j) l h = rises (row s) ys proper.distinct p up i j (omega arith) (omega arith)

  -- the places where it is written
  module _ (f k : ℕ) (at : f ≡ bool_byte s.empty) (size : k ≡ s.count) where
    abbrev written : List ℕ
    written = put_mid f k (put_mid f k zeros (row s)) ys

    few : f ≤ 1
    few = small s proper f k at size

    room : f + s.count ≤ limit.listed
    room = omega (arith, few, proper.count)

    -- so much is there before the last write
    wide : f ≤ length (put_mid f k zeros (row s))
    wide =
        let e = ap length (take-put_mid f k zeros (row s) (f + s.count) (omega (arith, length-row s proper)) (omega (arith, few))) ∙ length-append (take f zeros) (row s) in
        omega (arith, e, length-take (f + s.count) (put_mid f k zeros (row s)), length-take-le f zeros (omega (arith, few)), length-row s proper)

    front : take (f + s.count) written ≡ take (bool_byte s.empty) zeros ++ ys
    front = take-put_mid f k (put_mid f k zeros (row s)) ys (f + s.count) (omega (arith, many)) wide
        ∙ ap (λ (xs : List ℕ). xs ++ ys) (take-put_mid_below f k zeros (row s) f (omega arith) (omega (arith, few)))
        ∙ ap (λ (n : ℕ). take n zeros ++ ys) at

    tail : drop (f + s.count) written ≡ replicate (limit.listed - (f + s.count)) 0
    tail = drop-put_mid f k (put_mid f k zeros (row s)) ys (f + s.count) (omega (arith, size)) wide (many ∙ sym size)
        ∙ drop-put_mid f k zeros (row s) (f + s.count) (omega (arith, size)) (omega (arith, few)) (length-row s proper ∙ sym size)
        ∙ drop-replicate (f + s.count) limit.listed 0

    total : length written ≡ limit.listed
    total = ap length (sym (take-append-drop (f + s.count) written)) ∙ length-append (take (f + s.count) written) (drop (f + s.count) written)
        ∙ omega (arith, ap length front, length-append (take (bool_byte s.empty) zeros) ys, length-take-le (bool_byte s.empty) zeros (omega (arith, at, few)), at, many, ap length tail, length-replicate {A = ℕ} (limit.listed - (f + s.count)) 0, room)

    pub lists-sorted : Lists s (record { states = written; count = f + s.count })
    lists-sorted = record {
      long = total;
      count = room;
      rising = λ i j l h. rw (here i (omega (arith, l, h)), here j h) (order.0 i j l (omega (arith, h, ap length front, length-take-le (f + s.count) written (omega (arith, total, room)))));
      same = λ t. subst (λ (xs : List ℕ). elem t xs ≡ true ↔ Known s t) (sym front) (order.1 t);
      rest = tail;
    }
      where
        order : Rises (take (bool_byte s.empty) zeros ++ ys) × ((t : ℕ) → elem t (take (bool_byte s.empty) zeros ++ ys) ≡ true ↔ Known s t)
        order = in-order s.empty refl

        here : (i : ℕ) → i < f + s.count → get_or written i 0 ≡ get_or (take (bool_byte s.empty) zeros ++ ys) i 0
        here i h = sym (get_or-take (f + s.count) written i 0 h) ∙ ap (λ (xs : List ℕ). get_or xs i 0) front
