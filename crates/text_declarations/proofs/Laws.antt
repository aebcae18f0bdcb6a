-- Laws of declarations.
use mathlib.Core.Path.{◌≡◌, refl, sym, ◌∙◌}
use mathlib.Core.Logic.{◌⊎◌, ⊎_elim, inl, inr}
use mathlib.Core.Bool.{Bool, true, false, cond, ◌&&◌}
use mathlib.Core.List.{List, [], ◌∷◌, ◌++◌}
use mathlib.Core.Option.{none, some}
use Prim.Native.Nat.{ℕ, zero, suc, ◌+◌, ◌*◌, ◌-◌, ◌/◌, ◌≤◌, ◌<◌}
use native.Mathlib.Nat.{add-zero}
use native.Mathlib.Numerals.{add-one}
use native.Mathlib.Omega.{arith}
use lib.Dec.{eqb, leb}
use lib.ListN.{length, drop, get_or, set}
use lib.Seq.{slice, get_or-set_same, get_or-set_other}
use borrow.Author.Tests.{eqb-true, eqb-false, eq-eqb, ne_eqb, le-leb, lt-leb, leb-false}
use Rattle.std.proofs.lemmas.Bool.{cases_Bool}
use Rattle.limits.specs.Limits as limit
use Rattle.grammar.specs.Bytes.{bytes, Word}
use Rattle.grammar.specs.Forms as forms
use Rattle.grammar.specs.Shapes.{after, state_rest, rel_rest, whole}
use Rattle.grammar.specs.Models.{declare}
use Rattle.grammar.specs.Declarations as grammar
use Rattle.grammar.specs.Declarations.{lookup, count}
use Rattle.grammar.specs.Rows.{lower, row, again, fault}
use Rattle.grammar.proofs.Lower.{lower-first}
use Rattle.std.specs.Prelude as prelude
use Rattle.std.specs.Prelude.{Ok, Err, is_some, MatchOption}
use Rattle.std.specs.Bool.{then_some}
use Rattle.rows.specs.Rows.{number_of}
use Rattle.rows.specs.declared.Row.{Row}
use Rattle.text_faults.specs.Faults.{shaped}
use Rattle.text_scan.specs.Found.{BytesEnd, NameEnd}
use Rattle.text_names.specs.Names.{blank, declared_of, Valid, tally, added, found}
use Rattle.text_names.specs.declared.Name.{Name}
use Rattle.text_names.specs.declared.Declared.{Declared}
use Rattle.text_names.proofs.Laws.{declared-added, valid-added, tally-count}
use Rattle.text_clauses.proofs.Laws.{whole-all, whole_part}
use Rattle.text_declarations.specs.Declares.{Limited, state_number, rel_number, next_name, Entered, DeclarationEnd, ArityAt, StateAt, RelAt}

-- NUMBERS
-- whether a name stands already, as `find` says
pub taken : (D : grammar.Declared) (w : Word) (o : prelude.Option ℕ) {b : Bool} → lookup w D ≡ found o → b ≡ is_some o → again (lookup w D) ≡ b
taken D w prelude.None e q = rw (e, q)
taken D w (prelude.Some c) e q = rw (e, q)

crowded : (b : Bool) → lower 4 (row 5 b) ≡ 4
unfolding lower
crowded true = refl
crowded false = refl

module _ (D : grammar.Declared) (w : Word) where
  pub state-crowded : (t : ℕ) → count 0 D ≡ t → limit.states ≤ t → state_number D w ≡ 4
  unfolding state_number
  state-crowded t z h = rw (z, le-leb limit.states t h) (crowded (again (lookup w D)))

  pub state-free : (t : ℕ) → count 0 D ≡ t → t < limit.states → state_number D w ≡ row 5 (again (lookup w D))
  unfolding state_number
  state-free t z h = rw (z, lt-leb limit.states t h) (lower-first 0 (row 5 (again (lookup w D))) refl)

  module _ (n a b p : ℕ) (x : count 1 D ≡ a) (y : count 2 D ≡ b) (z : count 3 D ≡ p) where
    pub rel-crowded : limit.rels ≤ a + b + p → rel_number D w n ≡ 4
    unfolding rel_number
    rel-crowded h = rw (x, y, z, le-leb limit.rels (a + b + p) h) (crowded (again (lookup w D)))

    pub rel-pairs : a + b + p < limit.rels → n ≡ 2 → limit.pairs ≤ p → rel_number D w n ≡ 4
    unfolding rel_number
    rel-pairs h k l = rw (x, y, z, lt-leb limit.rels (a + b + p) h, eq-eqb n 2 k, le-leb limit.pairs p l) (crowded (again (lookup w D)))

    pub rel-free : a + b + p < limit.rels → (eqb n 2 && leb limit.pairs p) ≡ false → rel_number D w n ≡ row 5 (again (lookup w D))
    unfolding rel_number
    rel-free h k = rw (x, y, z, lt-leb limit.rels (a + b + p) h, k) (lower-first 0 (row 5 (again (lookup w D))) refl)

-- COUNTS
pub tally-le : (k : ℕ) (names : List Name) (n : ℕ) → tally k names n ≤ n
tally-le k names zero = omega arith
tally-le k names (suc n) = let h = tally-le k names n in
    ⊎_elim (λ (q : eqb ((get_or names n blank).code / 32) k ≡ true). rw q (omega arith)) (λ (q : eqb ((get_or names n blank).code / 32) k ≡ false). rw q (omega arith)) (cases_Bool (eqb ((get_or names n blank).code / 32) k))

-- each class is below its own limit, and so below 32
tally-small : {d : Declared} → Limited d → (k : ℕ) → k < 4 → tally k d.names d.count < 32
tally-small l zero h = omega (arith, l.states)
tally-small l (suc zero) h = omega (arith, l.derived)
tally-small l (suc (suc zero)) h = omega (arith, l.derived)
tally-small l (suc (suc (suc zero))) h = omega (arith, l.derived)
tally-small l (suc (suc (suc (suc k)))) h = absurd (omega arith)

tally-set : (k : ℕ) (names : List Name) (i : ℕ) (x : Name) (n : ℕ) → n ≤ i → tally k (set names i x) n ≡ tally k names n
tally-set k names i x zero h = refl
tally-set k names i x (suc n) h = rw (get_or-set_other names i n x blank (λ z. absurd (omega arith)), tally-set k names i x n (omega arith))

-- one name more, of class k
module _ (names : List Name) (n k t start len : ℕ) (h : n < length names) (small : t < 32) where
  abbrev x : Name
  x = record { code = 32 * k + t; start = start; len = len }

  class_of : (32 * k + t) / 32 ≡ k
  class_of = omega arith

  tally-own : tally k (set names n x) (n + 1) ≡ tally k names n + 1
  tally-own = rw (add-one n, get_or-set_same names n x blank h, class_of, eq-eqb k k refl, tally-set k names n x n (omega arith)) (sym (add-one (tally k names n)))

  tally-other : (j : ℕ) → (k ≡ j → ⊥) → tally j (set names n x) (n + 1) ≡ tally j names n
  tally-other j q = rw (add-one n, get_or-set_same names n x blank h, class_of, ne_eqb k j q, tally-set j names n x n (omega arith))

-- THE DECLARATIONS WITH ONE NAME MORE
module _ (text : List ℕ) (d : Declared) (a e : ℕ) (v : Valid text d) (l : Limited d) (h : a ≤ e) (k : e ≤ length text) where
  pub room : (tally 0 d.names d.count < limit.states) ⊎ (tally 1 d.names d.count + tally 2 d.names d.count + tally 3 d.names d.count < limit.rels) → d.count < limit.declared
  room r = ⊎_elim (λ (q : tally 0 d.names d.count < limit.states). omega (arith, l.total, l.derived)) (λ (q : tally 1 d.names d.count + tally 2 d.names d.count + tally 3 d.names d.count < limit.rels). omega (arith, l.total, l.states)) r

  module _ (j : ℕ) (few : d.count < limit.declared) where
    pub entered-valid : j < 4 → Valid text (added d (next_name d a e j))
    entered-valid q = valid-added v few (next_name d a e j) (omega arith) (omega (arith, tally-small l j q))

    pub entered-names : declared_of text (added d (next_name d a e j)) ≡ declared_of text d ++ ((slice a e text, 32 * j + tally j d.names d.count) ∷ [])
    entered-names = let z : a + (e - a) ≡ e = omega arith in rw (declared-added v few (next_name d a e j), z)

-- one relation more of class k
abbrev bump : ℕ → ℕ → ℕ
bump k j = cond (eqb k j) 1 0

bumps : (k : ℕ) → k < 4 → bump k 0 + bump k 1 + bump k 2 + bump k 3 ≡ 1
bumps zero h = refl
bumps (suc zero) h = refl
bumps (suc (suc zero)) h = refl
bumps (suc (suc (suc zero))) h = refl
bumps (suc (suc (suc (suc k)))) h = absurd (omega arith)

tally-after : (names : List Name) (n k t start len j : ℕ) → n < length names → t < 32 → tally j (set names n (record { code = 32 * k + t; start = start; len = len })) (n + 1) ≡ tally j names n + bump k j
tally-after names n k t start len j h small = ⊎_elim
    (λ (q : eqb k j ≡ true). let z = eqb-true k j q in rw (q, ← z) (tally-own names n k t start len h small))
    (λ (q : eqb k j ≡ false). rw q (tally-other names n k t start len h small j (eqb-false k j q) ∙ sym (add-zero (tally j names n)))) (cases_Bool (eqb k j))

module _ (d : Declared) (a e k : ℕ) (c : length d.names ≡ limit.declared) (l : Limited d) (few : d.count < limit.declared) where
  abbrev T : ℕ → ℕ
  T j = tally j d.names d.count

  limited-added : k < 4 → T 0 + bump k 0 ≤ limit.states → T 1 + bump k 1 + (T 2 + bump k 2) + (T 3 + bump k 3) ≤ limit.rels → Limited (added d (next_name d a e k))
  limited-added q s b =
      let o : (j : ℕ) → tally j (set d.names d.count (next_name d a e k)) (d.count + 1) ≡ T j + bump k j = λ j. tally-after d.names d.count k (T k) a (e - a) j (omega arith) (tally-small l k q) in
      let m = bumps k q in
      record { total = rw (o 0, o 1, o 2, o 3) (omega (arith, l.total)); states = rw (o 0) s; derived = rw (o 1, o 2, o 3) b }

pub limited-state : (d : Declared) (a e : ℕ) → length d.names ≡ limit.declared → Limited d → d.count < limit.declared → tally 0 d.names d.count < limit.states → Limited (added d (next_name d a e 0))
limited-state d a e c l few h = limited-added d a e 0 c l few (omega arith) (omega arith) (omega (arith, l.derived))

pub limited-rel : (d : Declared) (a e n : ℕ) → length d.names ≡ limit.declared → Limited d → d.count < limit.declared → n ≤ 2 → tally 1 d.names d.count + tally 2 d.names d.count + tally 3 d.names d.count < limit.rels
    → Limited (added d (next_name d a e (n + 1)))
limited-rel d a e n c l few h k =
    let z : bump (n + 1) 0 ≡ 0 = (rw (ne_eqb (n + 1) 0 (λ y. absurd (omega arith)))) in
    let m = bumps (n + 1) (omega arith) in
    limited-added d a e (n + 1) c l few (omega arith) (omega (arith, l.states)) (omega arith)

-- THE END OF A DECLARATION
module _ {text : List ℕ} {at e f : ℕ} (h : NameEnd text at e) (k : BytesEnd text e (bytes ")") f) where
  state-reads : state_rest (drop at text) ≡ some (forms.state_form (slice at e text), drop f text)
  unfolding state_rest
  state-reads = rw (h.read, k.read)

  -- the line ends there, or does not
  pub state-chosen : (r : Bool) → r ≡ eqb f (length text) → MatchOption (then_some r e) (whole (state_rest (drop at text)) ≡ none) (StateAt text at)
  state-chosen true q = let z = eqb-true f (length text) (sym q) in record {
    begins = h.begins;
    ends = omega (arith, k.begins, k.ends);
    read = rw state-reads (whole-all (forms.state_form (slice at e text)) text f (omega arith));
  }
  state-chosen false q = let z = eqb-false f (length text) (sym q) in rw state-reads (whole_part (forms.state_form (slice at e text)) text f (omega (arith, k.ends)))

module _ {text : List ℕ} {d : Declared} {at e : ℕ} (s : StateAt text at e) where
  pub state-faulty : (x : Row) → number_of x ≡ state_number (declared_of text d) (slice at e text) → DeclarationEnd text d (state_rest (drop at text)) (Err x)
  unfolding state_number fault
  state-faulty x z = shaped (forms.state_form (slice at e text)) s.read (λ c. z) tt

  pub state-added : {r : Declared} → Valid text d → Limited d → state_number (declared_of text d) (slice at e text) ≡ 0 → tally 0 d.names d.count < limit.states → Entered d at e 0 r
      → DeclarationEnd text d (state_rest (drop at text)) (Ok r)
  unfolding state_number fault declare
  state-added v l z f en =
      let b : at ≤ e = omega (arith, s.begins) in
      let c : e ≤ length text = omega (arith, s.ends) in
      let few = room text d at e v l b c (inl f) in
      shaped (forms.state_form (slice at e text)) s.read (λ cl. sym z) (record {
        valid = rw en (entered-valid text d at e v l b c 0 few (omega arith));
        limited = rw en (limited-state d at e v.names l few f);
        declared = rw en (entered-names text d at e v l b c 0 few ∙ rw (tally-count text d 0) (let y : 32 * 0 + tally 0 d.names d.count ≡ tally 0 d.names d.count = omega arith in rw y));
      })

-- the state relations are few where the number is none
pub state-few : (text : List ℕ) (d : Declared) (u : Word) → state_number (declared_of text d) u ≡ 0 → tally 0 d.names d.count < limit.states
unfolding state_number
state-few text d u z = ⊎_elim
    (λ (q : leb limit.states (count 0 (declared_of text d)) ≡ true). absurd (let y = rw (q, crowded (again (lookup u (declared_of text d)))) at z in omega arith))
    (λ (q : leb limit.states (count 0 (declared_of text d)) ≡ false). let y = leb-false limit.states (count 0 (declared_of text d)) q in omega (arith, tally-count text d 0)) (cases_Bool (leb limit.states (count 0 (declared_of text d))))

-- `rel`
pub rel-few : (text : List ℕ) (d : Declared) (u : Word) (n : ℕ) → rel_number (declared_of text d) u n ≡ 0 → tally 1 d.names d.count + tally 2 d.names d.count + tally 3 d.names d.count < limit.rels
unfolding rel_number
rel-few text d u n z =
    let D = declared_of text d in
    let s = count 1 D + count 2 D + count 3 D in
    ⊎_elim (λ (q : leb limit.rels s ≡ true). absurd (let y = rw (q, crowded (again (lookup u D))) at z in omega arith))
    (λ (q : leb limit.rels s ≡ false). let y = leb-false limit.rels s q in omega (arith, tally-count text d 1, tally-count text d 2, tally-count text d 3)) (cases_Bool (leb limit.rels s))

module _ {text : List ℕ} {at e i n : ℕ} (h : NameEnd text at e) (k : BytesEnd text e (bytes " ") i) (a : ArityAt text i n) where
  pub rel-unclosed : after (bytes ")") (drop (i + 1) text) ≡ none → whole (rel_rest (drop at text)) ≡ none
  unfolding rel_rest
  rel-unclosed b = rw (h.read, k.read, a.read, b)

  module _ {f : ℕ} (b : BytesEnd text (i + 1) (bytes ")") f) where
    rel-reads : rel_rest (drop at text) ≡ some (forms.rel_form (slice at e text) n, drop f text)
    unfolding rel_rest
    rel-reads = rw (h.read, k.read, a.read, b.read)

    pub rel-chosen : (r : Bool) → r ≡ eqb f (length text) → MatchOption {T = ℕ × ℕ} (then_some r (e, n)) (whole (rel_rest (drop at text)) ≡ none) (λ p. RelAt text at p.0 p.1)
    rel-chosen true q = let z = eqb-true f (length text) (sym q) in record {
      begins = h.begins;
      ends = omega (arith, k.begins, k.ends);
      small = a.small;
      read = rw rel-reads (whole-all (forms.rel_form (slice at e text) n) text f (omega arith));
    }
    rel-chosen false q = let z = eqb-false f (length text) (sym q) in rw rel-reads (whole_part (forms.rel_form (slice at e text) n) text f (omega (arith, b.ends)))

module _ {text : List ℕ} {d : Declared} {at e n : ℕ} (s : RelAt text at e n) where
  pub rel-faulty : (x : Row) → number_of x ≡ rel_number (declared_of text d) (slice at e text) n → DeclarationEnd text d (rel_rest (drop at text)) (Err x)
  unfolding rel_number fault
  rel-faulty x z = shaped (forms.rel_form (slice at e text) n) s.read (λ c. z) tt

  pub rel-added : {r : Declared} → Valid text d → Limited d → rel_number (declared_of text d) (slice at e text) n ≡ 0
      → tally 1 d.names d.count + tally 2 d.names d.count + tally 3 d.names d.count < limit.rels → Entered d at e (n + 1) r
      → DeclarationEnd text d (rel_rest (drop at text)) (Ok r)
  unfolding rel_number fault declare
  rel-added vd l z f en =
      let b : at ≤ e = omega (arith, s.begins) in
      let c : e ≤ length text = omega (arith, s.ends) in
      let few = room text d at e vd l b c (inr f) in
      shaped (forms.rel_form (slice at e text) n) s.read (λ cl. sym z) (record {
        valid = rw en (entered-valid text d at e vd l b c (n + 1) few (omega (arith, s.small)));
        limited = rw en (limited-rel d at e n vd.names l few s.small f);
        declared = rw en (entered-names text d at e vd l b c (n + 1) few ∙ rw (tally-count text d (n + 1)));
      })
