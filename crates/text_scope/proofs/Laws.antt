-- Laws of the table of variables.
use mathlib.Core.Path.{◌≡◌, refl, sym, ap, ◌∙◌, subst}
use mathlib.Core.Logic.{⊎_elim}
use mathlib.Core.Bool.{Bool, true, false, cond, ◌&&◌, or-false, or-true, and-true, and_assoc}
use mathlib.Core.List.{List, [], ◌∷◌, ◌++◌}
use Prim.Native.Nat.{ℕ, zero, suc, ◌-◌, ◌≤◌, ◌<◌}
use native.Mathlib.Nat.{add-zero}
use native.Mathlib.Numerals.{add-one}
use native.Mathlib.Omega.{arith}
use lib.Dec.{eqb}
use lib.ListN.{length, take, drop, get_or, set, length-set}
use lib.Seq.{slice, get_or-set_same, get_or-set_other, ext_get_or, take-suc, length-take-le}
use borrow.Author.Tests.{eqb-true, eqb-false}
use Rattle.std.proofs.lemmas.Bool.{cases_Bool}
use Rattle.std.specs.Prelude.{Option, Some, None, MatchOption}
use Rattle.std.specs.List.{list_all, AllWithin, HoldsAt}
use Rattle.std.proofs.lemmas.List.{get_or-take, get_or_default}
use Rattle.std.proofs.lemmas.List.Folds.{list_all-append}
use Rattle.grammar.specs.Bytes.{Word, same}
use Rattle.grammar.specs.Declarations.{member, extend, place}
use Rattle.grammar.specs.Words.{Distinct, all_marked}
use Rattle.grammar.proofs.Tests.{clash}
use Rattle.grammar.proofs.Words.{same-eq, member-append, member-last, member-left, place-hit, place-miss, place_none, place-below, marks-new, marks-old, marks-append}
use Rattle.text_scan.proofs.Laws.{slice-part}
use Rattle.text_names.specs.Rows.{list_of}
use Rattle.text_names.proofs.Laws.{list_of-same, length-list_of, get_or-list_of}
use Rattle.text_scope.specs.Scopes.{blank, variable_at, variable, known_of, mark, marks_of, Valid, Known, marking, added, Holds}
use Rattle.text_scope.specs.declared.Variable.{Variable}
use Rattle.text_scope.specs.declared.Scope.{Scope}

-- PLACES IN A ROW
module _ (w : Word) (f : ℕ → Word) where
  member-misses : (n : ℕ) → ((k : ℕ) → k < n → same w (f k) ≡ false) → member w (list_of n f) ≡ false
  member-misses zero h = refl
  member-misses (suc n) h = member-append w (list_of n f) (f n ∷ []) ∙ rw (member-misses n (λ k l. h k (omega arith)), h n (omega arith))

  pub member-list_of : (n i : ℕ) → i < n → same w (f i) ≡ true → member w (list_of n f) ≡ true
  member-list_of zero i h q = absurd (omega arith)
  member-list_of (suc n) i h q = ⊎_elim
      (λ (p : eqb i n ≡ true). member-append w (list_of n f) (f n ∷ []) ∙ rw (← eqb-true i n p, q) (or-true (member w (list_of i f))))
      (λ (p : eqb i n ≡ false). member-left w (list_of n f) (f n ∷ []) (member-list_of n i (let z = eqb-false i n p in omega arith) q)) (cases_Bool (eqb i n))

  pub place-list_of : (n i : ℕ) → i < n → member w (list_of i f) ≡ false → same w (f i) ≡ true → place (list_of n f) w ≡ i
  unfolding place
  place-list_of zero i h e q = absurd (omega arith)
  place-list_of (suc n) i h e q = ⊎_elim
      (λ (p : eqb i n ≡ true). subst (λ (m : ℕ). place (list_of m f ++ (f m ∷ [])) w ≡ i) (eqb-true i n p)
      (place-miss w (list_of i f) (f i ∷ []) e ∙ rw (q, length-list_of i f, add-zero)))
      (λ (p : eqb i n ≡ false). let k : i < n = (let z = eqb-false i n p in omega arith) in
      place-hit w (list_of n f) (f n ∷ []) (member-list_of n i k q) ∙ place-list_of n i k e q) (cases_Bool (eqb i n))

-- FINDING A VARIABLE
module _ {N : ℕ} {text : List ℕ} {s : Scope N} (valid : Valid text s) where
  -- the variables so far
  abbrev row : List Variable
  row = take s.count s.variables

  row-length : length row ≡ s.count
  row-length = let c = valid.count in length-take-le s.count s.variables (omega (arith, valid.variables))

  pub within-row : (k : ℕ) (v : Variable) → k < length row → v ≡ get_or row k v → (v.start ≤ v.end) × (v.end ≤ length text)
  within-row k v l e =
      let l' : k < s.count = omega (arith, row-length) in
      subst (λ (u : Variable). (u.start ≤ u.end) × (u.end ≤ length text)) (sym (e ∙ (get_or_default row k v blank l ∙ get_or-take s.count s.variables k blank l'))) (valid.within k l')

  module _ (w : Word) where
    -- whether it is w
    abbrev pub Named : Bool → Variable → Type 0
    Named b v = same w (take (v.end - v.start) (drop v.start text)) ≡ b

    there : {b : Bool} (k : ℕ) → k < s.count → Named b (get_or row k blank) → same w (variable text s k) ≡ b
    there {b} k l h = rw (slice-part text (variable_at s k).start (variable_at s k).end (valid.within k l).0) (subst (Named b) (get_or-take s.count s.variables k blank l) h)

    pub found_variable : (r : Option ℕ) → MatchOption r (AllWithin (Named false) row 0 (length row)) (λ i. (i < length row) × HoldsAt (Named true) row i × AllWithin (Named false) row 0 i)
        → MatchOption r (member w (known_of text s) ≡ false) (Known (known_of text s) w)
    unfolding known_of
    found_variable None h = member-misses w (variable text s) s.count (λ k l. there k l (h k blank (omega arith) (omega (arith, row-length))))
    found_variable (Some i) h =
        let l : i < s.count = omega (arith, row-length, h.0) in
        record {
          known = member-list_of w (variable text s) s.count i l (there i l (h.1 blank));
          number = sym (place-list_of w (variable text s) s.count i l (member-misses w (variable text s) i (λ k q. there k (omega arith) (h.2 k blank (omega arith) q))) (there i l (h.1 blank)));
        }

-- a part of the text that is known, and one that is not
module _ (text : List ℕ) (vs : List Word) (a e : ℕ) (h : a ≤ e) where
  pub known-slice : {i : ℕ} → Known vs (take (e - a) (drop a text)) i → Known vs (slice a e text) i
  known-slice k = rw (slice-part text a e h) k

  pub unknown-slice : member (take (e - a) (drop a text)) vs ≡ false → member (slice a e text) vs ≡ false
  unknown-slice q = rw (slice-part text a e h) q

-- MARKS IN A ROW
all_marked-append : (a : List Bool) (m : Bool) → all_marked (a ++ (m ∷ [])) ≡ (all_marked a && m)
all_marked-append [] m = and-true m
all_marked-append (n ∷ a) m = rw (all_marked-append a m) (sym (and_assoc n (all_marked a) m))

pub marked-all : (vs : List Variable) (n : ℕ) → n ≤ length vs → all_marked (list_of n (λ i. (get_or vs i blank).marked)) ≡ list_all (λ v. v.marked) (take n vs)
marked-all vs zero h = refl
marked-all vs (suc n) h =
    all_marked-append (list_of n (λ i. (get_or vs i blank).marked)) (get_or vs n blank).marked
    ∙ rw (marked-all vs n (omega arith), take-suc vs n blank (omega arith), list_all-append (λ (v : Variable). v.marked) (take n vs) (get_or vs n blank ∷ []), and-true)

-- A VARIABLE IS MARKED
list_of-set : (f g : ℕ → Bool) (n i : ℕ) → i < n → g i ≡ true → ((j : ℕ) → (j ≡ i → ⊥) → g j ≡ f j) → list_of n g ≡ set (list_of n f) i true
list_of-set f g n i h at_i other = ext_get_or false _ _
    (length-list_of n g ∙ sym (length-set (list_of n f) i true ∙ length-list_of n f))
    (λ j l. let l' : j < n = (let z = length-list_of n g in omega arith) in
    get_or-list_of n g j false l' ∙ ⊎_elim
    (λ (q : eqb j i ≡ true). rw (eqb-true j i q, at_i) (sym (get_or-set_same (list_of n f) i true false (omega (arith, length-list_of n f)))))
    (λ (q : eqb j i ≡ false). other j (eqb-false j i q) ∙ sym (get_or-set_other (list_of n f) i j true false (eqb-false j i q) ∙ get_or-list_of n f j false l'))
    (cases_Bool (eqb j i)))

module _ {N : ℕ} (s : Scope N) (i : ℕ) where
  abbrev with_mark : Variable
  with_mark = record { start = (variable_at s i).start; end = (variable_at s i).end; marked = true }

  pub mark-other : (j : ℕ) → (j ≡ i → ⊥) → mark (marking s i) j ≡ mark s j
  mark-other j z = ap (λ (v : Variable). v.marked) (get_or-set_other s.variables i j with_mark blank z)

  module _ (l : i < length s.variables) where
    pub mark-same : mark (marking s i) i ≡ true
    mark-same = ap (λ (v : Variable). v.marked) (get_or-set_same s.variables i with_mark blank l)

    place-kept : (j : ℕ) → ((variable_at (marking s i) j).start ≡ (variable_at s j).start) × ((variable_at (marking s i) j).end ≡ (variable_at s j).end)
    place-kept j = ⊎_elim
        (λ (q : eqb j i ≡ true). rw (eqb-true j i q, get_or-set_same s.variables i with_mark blank l) (refl, refl))
        (λ (q : eqb j i ≡ false). rw (get_or-set_other s.variables i j with_mark blank (eqb-false j i q)) (refl, refl))
        (cases_Bool (eqb j i))

    pub known-marking : (text : List ℕ) → known_of text (marking s i) ≡ known_of text s
    unfolding known_of
    known-marking text = list_of-same s.count (variable text (marking s i)) (variable text s) (λ j q. let p = place-kept j in rw (p.0, p.1))

    pub valid-marking : {text : List ℕ} → Valid text s → Valid text (marking s i)
    valid-marking v = record {
      count = v.count;
      variables = length-set s.variables i with_mark ∙ v.variables;
      within = λ j q. let p = place-kept j in rw (p.0, p.1) (v.within j q);
    }

-- ONE VARIABLE MORE
module _ {N : ℕ} {text : List ℕ} (s : Scope N) (a e : ℕ) (p : Bool) (v : Valid text s) (room : s.count < N) where
  abbrev fresh : Variable
  fresh = record { start = a; end = e; marked = p }

  last-added : variable_at (added s a e p) s.count ≡ fresh
  last-added = get_or-set_same s.variables s.count fresh blank (omega (arith, v.variables))

  others-kept : (j : ℕ) → (j ≡ s.count → ⊥) → variable_at (added s a e p) j ≡ variable_at s j
  others-kept j z = get_or-set_other s.variables s.count j fresh blank z

  pub mark-added : mark (added s a e p) s.count ≡ p
  mark-added = ap (λ (v : Variable). v.marked) last-added

  pub mark-kept : (j : ℕ) → (j ≡ s.count → ⊥) → mark (added s a e p) j ≡ mark s j
  mark-kept j z = ap (λ (v : Variable). v.marked) (others-kept j z)

  pub valid-added : a ≤ e → e ≤ length text → Valid text (added s a e p)
  valid-added h k = record {
    count = omega arith;
    variables = length-set s.variables s.count fresh ∙ v.variables;
    within = λ j q. ⊎_elim
        (λ (y : eqb j s.count ≡ true). rw (eqb-true j s.count y, last-added) (h, k))
        (λ (y : eqb j s.count ≡ false). let t = eqb-false j s.count y in rw (others-kept j t) (v.within j (omega arith)))
        (cases_Bool (eqb j s.count));
  }

  pub known-added : known_of text (added s a e p) ≡ known_of text s ++ (slice a e text ∷ [])
  unfolding known_of
  known-added = rw (add-one, last-added) (ap (λ (us : List Word). us ++ (slice a e text ∷ []))
      (list_of-same s.count (variable text (added s a e p)) (variable text s) (λ j q. rw (others-kept j (λ t. absurd (omega arith))))))

  pub marks-added : marks_of (added s a e p) ≡ marks_of s ++ (p ∷ [])
  unfolding marks_of
  marks-added = rw (add-one, mark-added) (ap (λ (ms : List Bool). ms ++ (p ∷ []))
      (list_of-same s.count (mark (added s a e p)) (mark s) (λ j q. mark-kept j (λ t. absurd (omega arith)))))

module _ {N : ℕ} {text : List ℕ} {s : Scope N} {vs S : List Word} (so : Holds text s vs S) where
  pub counted : length vs ≡ s.count
  unfolding known_of
  counted = rw (← so.known) (length-list_of s.count (variable text s))

  module _ (a e : ℕ) where
    abbrev w : Word
    w = slice a e text

    within_more : (vs' : List Word) → ((x : Word) → member x vs ≡ true → member x vs' ≡ true) → member w vs' ≡ true → (x : Word) → member x (S ++ (w ∷ [])) ≡ true → member x vs' ≡ true
    within_more vs' f g x q = ⊎_elim (λ (p : member x S ≡ true). f x (so.within x p))
        (λ (p : member x S ≡ false). subst (λ (y : Word). member y vs' ≡ true) (sym (same-eq x w (last_one x p q))) g) (cases_Bool (member x S))
      where
        last_one : (x : Word) → member x S ≡ false → member x (S ++ (w ∷ [])) ≡ true → same x w ≡ true
        last_one x p q = sym (or-false (same x w)) ∙ (rw (member-append x S (w ∷ []), p) at q)

    -- a variable that is known
    module _ {i : ℕ} (k : Known vs w i) where
      pub known-below : i < s.count
      known-below = omega (arith, k.number, place-below w vs k.known, counted)

      pub known-words : extend vs (w ∷ []) ≡ vs
      unfolding extend
      known-words = rw k.known

      pub known-marked : Distinct vs → Holds text (marking s i) (extend vs (w ∷ [])) (S ++ (w ∷ []))
      unfolding marks_of
      known-marked d = let l : i < length s.variables = omega (arith, known-below, so.valid.count, so.valid.variables) in rw known-words (record {
        valid = valid-marking s i l so.valid;
        known = known-marking s i l text ∙ so.known;
        marks = list_of-set (mark s) (mark (marking s i)) s.count i known-below (mark-same s i l) (mark-other s i) ∙ rw (so.marks, k.number) (sym (marks-old S vs w d k.known));
        within = within_more vs (λ x q. q) k.known;
      })

    -- one that is new
    module _ (m : member w vs ≡ false) where
      pub new-words : extend vs (w ∷ []) ≡ vs ++ (w ∷ [])
      unfolding extend
      new-words = rw m

      pub new-number : s.count ≡ place vs w
      new-number = sym (place_none w vs m ∙ counted)

      pub new-added : s.count < N → a ≤ e → e ≤ length text → (p : Bool) → Holds text (added s a e p) (extend vs (w ∷ [])) (cond p (S ++ (w ∷ [])) S)
      new-added room h k p = rw new-words (go p)
        where
          go : (p : Bool) → Holds text (added s a e p) (vs ++ (w ∷ [])) (cond p (S ++ (w ∷ [])) S)
          go true = record {
            valid = valid-added s a e true so.valid room h k;
            known = known-added s a e true so.valid room ∙ rw so.known;
            marks = marks-added s a e true so.valid room ∙ rw so.marks (sym (marks-append (S ++ (w ∷ [])) vs (w ∷ []) ∙ rw (marks-new S vs w m, member-last w S)));
            within = within_more (vs ++ (w ∷ [])) (λ x q. member-left x vs (w ∷ []) q) (member-last w vs);
          }
          go false = record {
            valid = valid-added s a e false so.valid room h k;
            known = known-added s a e false so.valid room ∙ rw so.known;
            marks = marks-added s a e false so.valid room ∙ rw so.marks (sym (marks-append S vs (w ∷ []) ∙ rw (⊎_elim (λ (q : member w S ≡ true). clash (so.within w q) m) (λ q. q) (cases_Bool (member w S)))));
            within = λ x q. member-left x vs (w ∷ []) (so.within x q);
          }
