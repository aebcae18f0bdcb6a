-- Laws of the table of declared names.
use mathlib.Core.Path.{◌≡◌, refl, sym, ◌∙◌, subst}
use mathlib.Core.Logic.{⊎_elim}
use mathlib.Core.Bool.{Bool, true, false, false≢true, cond}
use mathlib.Core.List.{List, [], ◌∷◌, ◌++◌}
use mathlib.Core.Option.{none, some}
use mathlib.Core.Option as math
use Prim.Native.Nat.{ℕ, zero, suc, ◌+◌, ◌-◌, ◌/◌, ◌≤◌, ◌<◌}
use native.Mathlib.Numerals.{add-one}
use native.Mathlib.Omega.{arith}
use lib.Dec.{eqb}
use lib.ListN.{length, take, drop, get_or, length-set, length-append, get_or-append}
use lib.Seq.{slice, length-take-le, get_or_at, get_or-set_same, get_or-set_other, take-take}
use borrow.Author.Tests.{eqb-true, eqb-false}
use Rattle.std.proofs.lemmas.Bool.{cases_Bool}
use Rattle.std.specs.Prelude.{Option, Some, None, MatchOption}
use Rattle.std.specs.List.{count_by, AllWithin, HoldsAt}
use Rattle.std.proofs.lemmas.List.{get_or-take, get_or_default}
use Rattle.std.proofs.lemmas.List.Sums.{count_by_more_yes, count_by_more_no}
use Rattle.limits.specs.Limits as limit
use Rattle.grammar.specs.Bytes.{Word, same}
use Rattle.grammar.specs.Declarations as grammar
use Rattle.grammar.specs.Declarations.{lookup, count, class}
use Rattle.text_scan.proofs.Laws.{slice-part}
use Rattle.text_names.specs.Rows.{list_of}
use Rattle.text_names.specs.Names.{blank, name_at, begin, end, entry, declared_of, Valid, tally, added}
use Rattle.text_names.specs.declared.Name.{Name}
use Rattle.text_names.specs.declared.Declared.{Declared}

-- ROWS
pub list_of-same : {A : Type 0} (n : ℕ) (f g : ℕ → A) → ((i : ℕ) → i < n → f i ≡ g i) → list_of n f ≡ list_of n g
list_of-same zero f g h = refl
list_of-same (suc n) f g h = rw (list_of-same n f g (λ i l. h i (omega arith)), h n (omega arith))

pub length-list_of : {A : Type 0} (n : ℕ) (f : ℕ → A) → length (list_of n f) ≡ n
length-list_of zero f = refl
length-list_of (suc n) f = length-append (list_of n f) (f n ∷ []) ∙ rw (length-list_of n f, add-one)

pub get_or-list_of : {A : Type 0} (n : ℕ) (f : ℕ → A) (j : ℕ) (d : A) → j < n → get_or (list_of n f) j d ≡ f j
get_or-list_of zero f j d h = absurd (omega arith)
get_or-list_of (suc n) f j d h = ⊎_elim
    (λ (q : eqb j n ≡ true). rw (eqb-true j n q) (get_or_at (list_of n f) (f n) [] d n (length-list_of n f)))
    (λ (q : eqb j n ≡ false). let k : j < n = (let z = eqb-false j n q in omega arith) in
    get_or-append (list_of n f) (f n ∷ []) d j (omega (arith, length-list_of n f)) ∙ get_or-list_of n f j d k) (cases_Bool (eqb j n))

-- LOOKING UP
module _ (w : Word) where
  lookup-some : (D E : grammar.Declared) (c : ℕ) → lookup w D ≡ some c → lookup w (D ++ E) ≡ some c
  unfolding lookup
  lookup-some [] E c e = absurd (false≢true cc)
  lookup-some (d ∷ D) E c e = ⊎_elim (λ (q : same w d.0 ≡ true). rw q (rw q at e)) (λ (q : same w d.0 ≡ false). rw q (lookup-some D E c (rw q at e))) (cases_Bool (same w d.0))

  lookup-none : (D E : grammar.Declared) → lookup w D ≡ none → lookup w (D ++ E) ≡ lookup w E
  unfolding lookup
  lookup-none [] E e = refl
  lookup-none (d ∷ D) E e = ⊎_elim (λ (q : same w d.0 ≡ true). absurd (let e' = rw q at e in false≢true cc)) (λ (q : same w d.0 ≡ false). rw q (lookup-none D E (rw q at e))) (cases_Bool (same w d.0))

  module _ (f : ℕ → Word × ℕ) where
    pub lookup-misses : (m : ℕ) → ((k : ℕ) → k < m → same w (f k).0 ≡ false) → lookup w (list_of m f) ≡ none
    unfolding lookup
    lookup-misses zero h = refl
    lookup-misses (suc m) h = lookup-none (list_of m f) (f m ∷ []) (lookup-misses m (λ k l. h k (omega arith))) ∙ rw (h m (omega arith))

    pub lookup-hit : (n i : ℕ) → i < n → lookup w (list_of i f) ≡ none → same w (f i).0 ≡ true → lookup w (list_of n f) ≡ some (f i).1
    unfolding lookup
    lookup-hit zero i h e q = absurd (omega arith)
    lookup-hit (suc n) i h e q = ⊎_elim
        (λ (p : eqb i n ≡ true). subst (λ (m : ℕ). lookup w (list_of m f ++ (f m ∷ [])) ≡ some (f i).1) (eqb-true i n p) (lookup-none (list_of i f) (f i ∷ []) e ∙ rw q))
        (λ (p : eqb i n ≡ false). lookup-some (list_of n f) (f n ∷ []) (f i).1 (lookup-hit n i (let z = eqb-false i n p in omega arith) e q)) (cases_Bool (eqb i n))

-- COUNTING
count-append : (k : ℕ) (D : grammar.Declared) (d : Word × ℕ) → count k (D ++ (d ∷ [])) ≡ cond (eqb (class d.1) k) (suc (count k D)) (count k D)
unfolding count
count-append k [] d = refl
count-append k (e ∷ D) d = ⊎_elim
    (λ (q : eqb (class e.1) k ≡ true). rw (q, count-append k D d) (⊎_elim (λ (p : eqb (class d.1) k ≡ true). rw p) (λ (p : eqb (class d.1) k ≡ false). rw p) (cases_Bool (eqb (class d.1) k))))
    (λ (q : eqb (class e.1) k ≡ false). rw (q, count-append k D d)) (cases_Bool (eqb (class e.1) k))

pub tally-count : (text : List ℕ) (d : Declared) (k : ℕ) → count k (declared_of text d) ≡ tally k d.names d.count
unfolding declared_of count
tally-count text d k = go d.count
  where
    go : (n : ℕ) → count k (list_of n (entry text d)) ≡ tally k d.names n
    go zero = refl
    go (suc n) = count-append k (list_of n (entry text d)) (entry text d n) ∙ rw (go n)

-- ONE NAME MORE
module _ {text : List ℕ} {d : Declared} (v : Valid text d) (h : d.count < limit.declared) (name : Name) where
  pub declared-added : declared_of text (added d name) ≡ declared_of text d ++ ((slice (begin name) (end name) text, name.code) ∷ [])
  unfolding declared_of
  declared-added = rw add-one (
      let n = d.count in
      rw (
        get_or-set_same d.names n name blank (omega (arith, v.names)),
        list_of-same n (entry text (added d name)) (entry text d) (λ i l. rw (get_or-set_other d.names n i name blank (λ z. absurd (omega arith)))),
      ))

  pub valid-added : end name ≤ length text → name.code < 128 → Valid text (added d name)
  valid-added p q = record {
    count = omega arith;
    names = length-set d.names d.count name ∙ v.names;
    within = λ i l. ⊎_elim
        (λ (z : eqb i d.count ≡ true). let e = eqb-true i d.count z in rw (e, get_or-set_same d.names d.count name blank (omega (arith, v.names))) p)
        (λ (z : eqb i d.count ≡ false). let e = eqb-false i d.count z in rw (get_or-set_other d.names d.count i name blank e) (v.within i (omega arith)))
        (cases_Bool (eqb i d.count));
    coded = λ i l. ⊎_elim
        (λ (z : eqb i d.count ≡ true). let e = eqb-true i d.count z in rw (e, get_or-set_same d.names d.count name blank (omega (arith, v.names))) q)
        (λ (z : eqb i d.count ≡ false). let e = eqb-false i d.count z in rw (get_or-set_other d.names d.count i name blank e) (v.coded i (omega arith)))
        (cases_Bool (eqb i d.count));
  }

-- THE TEXT UP TO A PLACE
pub slice-prefix : (text : List ℕ) (a b e : ℕ) → b ≤ e → slice a b (take e text) ≡ slice a b text
slice-prefix text a b e h = rw (take-take b e text h)

-- FINDING A NAME
module _ {text : List ℕ} {d : Declared} (valid : Valid text d) where
  -- the declared names
  abbrev row : List Name
  row = take d.count d.names

  row-length : length row ≡ d.count
  row-length = let c = valid.count in length-take-le d.count d.names (omega (arith, valid.names))

  pub within-row : (k : ℕ) (n : Name) → k < length row → n ≡ get_or row k n → end n ≤ length text
  within-row k n l e =
      let l' : k < d.count = omega (arith, row-length) in
      subst (λ (u : Name). end u ≤ length text) (sym (e ∙ (get_or_default row k n blank l ∙ get_or-take d.count d.names k blank l'))) (valid.within k l')

  module _ (w : Word) where
    -- whether it is w
    abbrev pub Named : Bool → Name → Type 0
    Named b n = same w (slice (begin n) (end n) text) ≡ b

    there : {b : Bool} (k : ℕ) → k < d.count → Named b (get_or row k blank) → same w (entry text d k).0 ≡ b
    there {b} k l h = subst (Named b) (get_or-take d.count d.names k blank l) h

    pub found_name : (r : Option ℕ) → MatchOption r (AllWithin (Named false) row 0 (length row)) (λ i. (i < length row) × HoldsAt (Named true) row i × AllWithin (Named false) row 0 i)
        → MatchOption r (lookup w (declared_of text d) ≡ none) (λ i. ((name_at d i).code < 128) × (lookup w (declared_of text d) ≡ some (name_at d i).code))
    unfolding declared_of
    found_name None h = lookup-misses w (entry text d) d.count (λ k l. there k l (h k blank (omega arith) (omega (arith, row-length))))
    found_name (Some i) h =
        let l : i < d.count = omega (arith, row-length, h.0) in
        (valid.coded i l, lookup-hit w (entry text d) d.count i l (lookup-misses w (entry text d) i (λ k q. there k (omega arith) (h.2 k blank (omega arith) q))) (there i l (h.1 blank)))

-- what a part of the text is found to be
pub found-slice : (text : List ℕ) (D : grammar.Declared) {o : math.Option ℕ} (a e : ℕ) → a ≤ e → lookup (take (e - a) (drop a text)) D ≡ o → lookup (slice a e text) D ≡ o
found-slice text D a e h q = rw (slice-part text a e h) q

-- COUNTING by `filter` and `count`
abbrev pub of_class : ℕ → Name → Bool
of_class k x = eqb (x.code / 32) k

pub tally-by : (k : ℕ) (names : List Name) (m : ℕ) → m ≤ length names → tally k names m ≡ count_by (of_class k) (take m names)
tally-by k names zero h = refl
tally-by k names (suc m) h = ⊎_elim
    (λ (q : of_class k (get_or names m blank) ≡ true).
    let t : count_by (of_class k) (take (m + 1) names) ≡ count_by (of_class k) (take m names) + 1 = count_by_more_yes (of_class k) names m blank (omega arith) q in
    rw (q, tally-by k names m (omega arith)) (sym (rw (add-one, add-one) at t)))
    (λ (q : of_class k (get_or names m blank) ≡ false).
    let t : count_by (of_class k) (take (m + 1) names) ≡ count_by (of_class k) (take m names) = count_by_more_no (of_class k) names m blank (omega arith) q in
    rw (q, tally-by k names m (omega arith)) (sym (rw add-one at t)))
    (cases_Bool (of_class k (get_or names m blank)))
