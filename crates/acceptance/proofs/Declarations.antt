-- DECLARATIONS stay good where a line has no fault, and a name that is found is a declared relation's.
use mathlib.Core.Path.{◌≡◌, refl, ap, ◌∙◌, subst}
use mathlib.Core.Logic.{⊎_elim, ◌≢◌}
use mathlib.Core.Bool.{Bool, true, false, cond, ◌&&◌, false≢true}
use mathlib.Core.List.{List, [], ◌∷◌, ◌++◌}
use mathlib.Core.Option.{Option, none, some}
use Prim.Native.Nat.{ℕ, zero, suc, ◌+◌, ◌-◌, ◌/◌, ◌≤◌, ◌<◌}
use native.Mathlib.Omega.{arith}
use lib.Dec.{eqb, leb}
use lib.ListN.{length, take, get_or, get_or-append}
use lib.Seq.{take-append-le, take-append_seam, get_or-append_seam}
use borrow.Author.Tests.{eq-eqb, ne_eqb, leb-false, ltb-true, ltb-false}
use Rattle.std.proofs.lemmas.Bool.{cases_Bool}
use Rattle.limits.specs.Limits as limit
use Rattle.semantics.proofs.Tools.{same?, or-false}
use Rattle.model.specs.WellFormed.{index_of}
use Rattle.grammar.specs.Bytes.{Word, same, is_name}
use Rattle.grammar.specs.Declarations.{class, is_state, arity_of, Declared, lookup, count, state_code, rel_code}
use Rattle.grammar.specs.Forms.{state_form, rel_form}
use Rattle.grammar.specs.Rows.{row, again, many_states, many_relations, fault}
use Rattle.grammar.specs.Models.{declare}
use Rattle.grammar.proofs.Words.{same_refl}
use Rattle.grammar.proofs.Lower.{lower-none}
use Rattle.grammar.proofs.Tests.{clash}
use Rattle.acceptance.specs.Sound.{name_at, code_at, GoodDeclarations, DeclaredState, DeclaredRelation}
use Rattle.acceptance.proofs.Words.{length-snoc}

-- ROWS that do not apply
pub row-none : (n : ℕ) (b : Bool) → 0 < n → row n b ≡ 0 → b ≡ false
row-none n true p e = absurd (omega arith)
row-none n false p e = refl

pub not-again : (o : Option ℕ) → again o ≡ false → o ≡ none
not-again none e = refl
not-again (some c) e = clash refl e

-- what holds at each place of a list and of one element more
pub at_snoc : {A : Type 0} (xs : List A) (x d : A) (R : ℕ → A → Type 0) → ((i : ℕ) → i < length xs → R i (get_or xs i d)) → R (length xs) x
    → (i : ℕ) → i < length (xs ++ (x ∷ [])) → R i (get_or (xs ++ (x ∷ [])) i d)
at_snoc xs x d R h k i l = ⊎_elim
    (λ (e : i ≡ length xs). rw (e, get_or-append_seam xs x [] d) k)
    (λ (e : i ≢ length xs). let m : i < length xs = omega (arith, length-snoc xs x) in rw (get_or-append xs (x ∷ []) d i m) (h i m))
    (same? i (length xs))

-- COUNTING
pub count-snoc : (k : ℕ) (D : Declared) (d : Word × ℕ) → count k (D ++ (d ∷ [])) ≡ cond (eqb (class d.1) k) (suc (count k D)) (count k D)
unfolding count
count-snoc k [] d = refl
count-snoc k (e ∷ D) d = ⊎_elim
    (λ (q : eqb (class e.1) k ≡ true). rw (q, count-snoc k D d) (⊎_elim (λ (p : eqb (class d.1) k ≡ true). rw p) (λ (p : eqb (class d.1) k ≡ false). rw p) (cases_Bool (eqb (class d.1) k))))
    (λ (q : eqb (class e.1) k ≡ false). rw (q, count-snoc k D d)) (cases_Bool (eqb (class e.1) k))

module _ (D : Declared) (w : Word) (c k : ℕ) where
  pub count-more : class c ≡ k → count k (D ++ ((w, c) ∷ [])) ≡ suc (count k D)
  count-more e = count-snoc k D (w, c) ∙ rw (eq-eqb (class c) k e)

  pub count_same : class c ≢ k → count k (D ++ ((w, c) ∷ [])) ≡ count k D
  count_same e = count-snoc k D (w, c) ∙ rw (ne_eqb (class c) k e)

  pub count-grows : count k D ≤ count k (D ++ ((w, c) ∷ []))
  count-grows = ⊎_elim (λ e. rw (count-more e) (omega arith)) (λ e. rw (count_same e) (omega arith)) (same? (class c) k)

-- a relation is one of those of its class
pub count_at : (D : Declared) (i k : ℕ) → i < length D → class (code_at D i) ≡ k → count k (take i D) < count k D
unfolding count
count_at [] i k h e = absurd (omega arith)
count_at (d ∷ D) zero k h e = rw (eq-eqb (class d.1) k e) (omega arith)
count_at (d ∷ D) (suc i) k h e =
    let r = count_at D i k (omega arith) e in
    ⊎_elim (λ (q : eqb (class d.1) k ≡ true). rw q (omega arith)) (λ (q : eqb (class d.1) k ≡ false). rw q r) (cases_Bool (eqb (class d.1) k))

one-of-four : (k a b c d n : ℕ) → k < 4 → n ≡ a + b + c + d
    → suc n ≡ cond (eqb k 0) (suc a) a + cond (eqb k 1) (suc b) b + cond (eqb k 2) (suc c) c + cond (eqb k 3) (suc d) d
one-of-four zero a b c d n h e = omega arith
one-of-four (suc zero) a b c d n h e = omega arith
one-of-four (suc (suc zero)) a b c d n h e = omega arith
one-of-four (suc (suc (suc zero))) a b c d n h e = omega arith
one-of-four (suc (suc (suc (suc k)))) a b c d n h e = absurd (omega arith)

-- all are of the four classes
pub count-all : (D : Declared) → ((i : ℕ) → i < length D → class (code_at D i) < 4) → length D ≡ count 0 D + count 1 D + count 2 D + count 3 D
unfolding count
count-all [] h = refl
count-all (d ∷ D) h =
    one-of-four (class d.1) (count 0 D) (count 1 D) (count 2 D) (count 3 D) (length D) (h 0 (omega arith)) (count-all D (λ i l. h (suc i) (omega arith)))

-- LOOKING UP
pub lookup-some : (w : Word) (D : Declared) (c : ℕ) → lookup w D ≡ some c → (i : ℕ) × (i < length D) × (code_at D i ≡ c)
unfolding lookup
lookup-some w [] c e = absurd (false≢true cc)
lookup-some w (d ∷ D) c e = ⊎_elim
    (λ (q : same w d.0 ≡ true). let e' = rw q at e in (0, omega arith, (cc)))
    (λ (q : same w d.0 ≡ false). let r = lookup-some w D c (rw q at e) in (suc r.0, omega arith, r.2)) (cases_Bool (same w d.0))

pub lookup-none : (w : Word) (D : Declared) → lookup w D ≡ none → (i : ℕ) → i < length D → name_at D i ≢ w
unfolding lookup
lookup-none w [] e i h p = omega arith
lookup-none w (d ∷ D) e zero h p = let e' = rw (← p, same_refl d.0) at e in false≢true cc
lookup-none w (d ∷ D) e (suc i) h p = ⊎_elim
    (λ (q : same w d.0 ≡ true). let e' = rw q at e in false≢true cc)
    (λ (q : same w d.0 ≡ false). lookup-none w D (rw q at e) i (omega arith) p) (cases_Bool (same w d.0))

-- A NAME THAT IS FOUND
module _ (D : Declared) (good : GoodDeclarations D) (w : Word) (c : ℕ) (found : lookup w D ≡ some c) where
  known : (class c < 4) × (index_of c < count (class c) D)
  known =
      let f = lookup-some w D c found in
      let o = good.order f.0 f.1 in
      subst (λ (r : ℕ). (class r < 4) × (index_of r < count (class r) D)) f.2 (o.0, rw o.1 (count_at D f.0 (class (code_at D f.0)) f.1 refl))

  pub found-state : is_state c ≡ true → DeclaredState D c
  found-state e =
      let h = ltb-true c 32 e in
      let z : c / 32 ≡ 0 = omega arith in
      let k = known.1 in
      let l = rw z at k in
      omega arith

  pub found-derived : is_state c ≡ false → DeclaredRelation D c (arity_of c)
  found-derived e =
      let h = ltb-false c 32 e in
      let k = known in
      let z : class c ≡ suc (class c - 1) = omega arith in
      rw e (omega arith, z, subst (λ (j : ℕ). index_of c < count j D) z k.1)

module _ (D : Declared) (good : GoodDeclarations D) (w : Word) (c : ℕ) (named : is_name w ≡ true) (new : lookup w D ≡ none) (four : class c < 4) (after : index_of c ≡ count (class c) D) where
  abbrev pub more : Declared
  more = D ++ ((w, c) ∷ [])

  name-before : (i : ℕ) → i < length D → name_at more i ≡ name_at D i
  name-before i l = ap (λ (d : Word × ℕ). d.0) (get_or-append D ((w, c) ∷ []) ([], 0) i l)

  pub good_more : count 0 more ≤ limit.states → count 1 more + count 2 more + count 3 more ≤ 16 → count 3 more ≤ 6 → GoodDeclarations more
  good_more states derived pairs = record {
    names = at_snoc D (w, c) ([], 0) (λ i d. is_name d.0 ≡ true) good.names named;
    different = λ i j l h. at_snoc D (w, c) ([], 0) (λ j d. (i : ℕ) → i < j → name_at more i ≢ d.0)
        (λ j h i l. rw (name-before i (omega arith)) (good.different i j l h))
        (λ i l. rw (name-before i l) (lookup-none w D new i l)) j h i l;
    order = order;
    most = let z = count-all more (λ i h. (order i h).0) in omega arith;
    states = states;
    derived = derived;
    pairs = pairs;
  }
    where
      order : (i : ℕ) → i < length more → (class (code_at more i) < 4) × (index_of (code_at more i) ≡ count (class (code_at more i)) (take i more))
      order = at_snoc D (w, c) ([], 0) (λ i d. (class d.1 < 4) × (index_of d.1 ≡ count (class d.1) (take i more)))
          (λ i h. rw (take-append-le i D ((w, c) ∷ []) (omega arith)) (good.order i h))
          (rw (take-append_seam D ((w, c) ∷ [])) (four, after))

-- `(state A)`
pub good-state : (D : Declared) → GoodDeclarations D → (w : Word) → is_name w ≡ true → (clauses : ℕ) → fault D clauses (state_form w) ≡ 0 → GoodDeclarations (declare D (state_form w))
unfolding fault declare
good-state D good w named clauses e =
    let f = lower-none (row 4 (many_states D)) (row 5 (again (lookup w D))) e in
    let few = leb-false limit.states (count 0 D) (row-none 4 (many_states D) (omega arith) f.0) in
    let new = not-again (lookup w D) (row-none 5 (again (lookup w D)) (omega arith) f.1) in
    let c = state_code D in
    let z : class c ≡ 0 = omega arith in
    let one = count_same D w c 1 (λ q. omega arith) in
    let two = count_same D w c 2 (λ q. omega arith) in
    let three = count_same D w c 3 (λ q. omega arith) in
    good_more D good w c named new (omega arith) (rw z (omega arith)) (rw (count-more D w c 0 z) few)
    (rw (one, two, three) good.derived) (rw three good.pairs)

-- `(rel R n)`
limits : (k a b c : ℕ) → k < 4 → 0 < k → a + b + c < 16 → c ≤ 6 → (k ≡ 3 → c < 6)
    → (cond (eqb k 1) (suc a) a + cond (eqb k 2) (suc b) b + cond (eqb k 3) (suc c) c ≤ 16) × (cond (eqb k 3) (suc c) c ≤ 6)
limits zero a b c h g m s t = absurd (omega arith)
limits (suc zero) a b c h g m s t = (omega arith, omega arith)
limits (suc (suc zero)) a b c h g m s t = (omega arith, omega arith)
limits (suc (suc (suc zero))) a b c h g m s t = let z = t refl in (omega arith, omega arith)
limits (suc (suc (suc (suc k)))) a b c h g m s t = absurd (omega arith)

pub good-rel : (D : Declared) → GoodDeclarations D → (w : Word) (n : ℕ) → is_name w ≡ true → n ≤ 2 → (clauses : ℕ) → fault D clauses (rel_form w n) ≡ 0
    → GoodDeclarations (declare D (rel_form w n))
unfolding fault declare
good-rel D good w n named small clauses e =
    let f = lower-none (row 4 (many_relations D n)) (row 5 (again (lookup w D))) e in
    let g = or-false (leb 16 (count 1 D + count 2 D + count 3 D)) (eqb n 2 && leb 6 (count 3 D)) (row-none 4 (many_relations D n) (omega arith) f.0) in
    let few = leb-false 16 (count 1 D + count 2 D + count 3 D) g.0 in
    let new = not-again (lookup w D) (row-none 5 (again (lookup w D)) (omega arith) f.1) in
    let c = rel_code D n in
    let room = below (n + 1) (omega arith) in
    let z : class c ≡ n + 1 = omega arith in
    let i : index_of c ≡ count (n + 1) D = omega arith in
    let l = limits (class c) (count 1 D) (count 2 D) (count 3 D) (omega arith) (omega arith) few good.pairs
    (λ q. let p = rw (eq-eqb n 2 (omega arith)) at g.1 in leb-false 6 (count 3 D) p) in
    good_more D good w c named new (omega arith) (rw z i)
    (rw (count_same D w c 0 (λ q. omega arith)) good.states)
    (rw (count-snoc 1 D (w, c), count-snoc 2 D (w, c), count-snoc 3 D (w, c)) l.0)
    (rw (count-snoc 3 D (w, c)) l.1)
  where
    below : (k : ℕ) → (k < 4) × (0 < k) → count k D < 32
    below zero h = absurd (omega arith)
    below (suc zero) h = let z = good.derived in omega arith
    below (suc (suc zero)) h = let z = good.derived in omega arith
    below (suc (suc (suc zero))) h = let z = good.derived in omega arith
    below (suc (suc (suc (suc k)))) h = absurd (omega arith)
