-- Laws of variables in order of first appearance.
use mathlib.Core.Path.{◌≡◌, refl, sym, ap, ◌∙◌, subst}
use mathlib.Core.Logic.{⊎_elim}
use mathlib.Core.Bool.{Bool, true, false, ◌||◌, or_assoc, or-false, false≢true}
use mathlib.Core.List.{List, [], ◌∷◌, ◌++◌, append_assoc, append-nil}
use mathlib.Core.Option.{none, some}
use Prim.Native.Nat.{ℕ, zero, suc, ◌+◌, ◌-◌, ◌≤◌, ◌<◌}
use native.Mathlib.Omega.{arith}
use lib.Dec.{eqb}
use lib.ListN.{length, take, drop, get_or, length-append, length-drop}
use lib.Seq.{slice, drop-drop, take-append_seam}
use borrow.Author.Tests.{eqb-true}
use Rattle.std.proofs.lemmas.Bool.{cases_Bool}
use Rattle.grammar.specs.Bytes.{Word, same, is_name}
use Rattle.grammar.specs.Shapes.{word, name}
use Rattle.grammar.specs.Declarations.{member, extend}
use Rattle.grammar.proofs.Words.{same-eq, member-append, extend-append}
use Rattle.text_scan.proofs.Laws.{next, slice-part}
use Rattle.std.specs.Prelude as std
use Rattle.std.specs.Prelude.{Some, None, MatchOption}
use Rattle.std.specs.List.{list_any, range_with_len}
use Rattle.display_shapes.specs.declared.Span.{Span}
use Rattle.display_shapes.specs.Rows.{pick, Shown}
use Rattle.display_parts.specs.Placed.{behind, spaced, leading, heading, Heads}
use Rattle.display_parts.specs.declared.Part.{Part}
use Rattle.display_shapes.specs.Ends.{after_space, EndsAt, Ends}
use Rattle.display_shapes.proofs.Rows.{some-none, pick_out}
use Rattle.display_parts.proofs.Inverse.{name-inverse, name-joined}
use Rattle.display_variables.specs.Order.{behind_at, before, Within, BehindEnd, IsStale, FreshEnd}

-- A NAME THAT IS READ has a letter, and stands at the front
name-long : (w : Word) → is_name w ≡ true → 0 < length w
unfolding is_name
name-long [] h = absurd (false≢true cc)
name-long (b ∷ w) h = omega arith

name-front : (s : List ℕ) {w t : List ℕ} → name s ≡ some (w, t) → (0 < length w) × (s ≡ w ++ t)
unfolding name
name-front s {w} {t} e = (
  ⊎_elim
      (λ (q : is_name (word s) ≡ true). let (p, r) = name-inverse s e in rw p (name-long (word s) q))
      (λ (q : is_name (word s) ≡ false). some-none e (rw q)) (cases_Bool (is_name (word s))),
  name-joined s e,
)

name-slice : (line : List ℕ) (a e : ℕ) {w : List ℕ} → a ≤ e → e ≤ length line → name (drop a line) ≡ some (w, drop e line) → (a < e) × (w ≡ slice a e line)
name-slice line a e {w} h k n =
    let (p, r) = name-front (drop a line) n in
    let c : length w ≡ e - a = (let d = ap length r in omega (arith, d, length-append w (drop e line), length-drop a line, length-drop e line)) in
    (omega (arith, p, c), sym (slice-part line a e h ∙ rw (r, ← c) (take-append_seam w (drop e line))))

-- THE NAME BEHIND A BYTE
module _ (line : List ℕ) (i : ℕ) (l : i < length line) where
  pub behind_none : after_space name (drop i line) ≡ none → behind_at line i ≡ []
  unfolding behind_at
  behind_none h = ⊎_elim
      (λ (q : eqb (get_or line i 0) 32 ≡ true).
      let z : name (drop (i + 1) line) ≡ none = rw (next line i l, eqb-true (get_or line i 0) 32 q) at h in
      rw (q, z))
      (λ (q : eqb (get_or line i 0) 32 ≡ false). rw q) (cases_Bool (eqb (get_or line i 0) 32))

  pub behind-found : {e : ℕ} → EndsAt (after_space name) line i e → BehindEnd line i e
  unfolding behind_at
  behind-found {e} v = ⊎_elim
      (λ (q : eqb 32 (get_or line i 0) ≡ true).
      let b = eqb-true 32 (get_or line i 0) q in
      let z : name (drop (i + 1) line) ≡ some (v.value, drop e line) = (let f = v.found in rw (next line i l, q) at f) in
      let (p, w) = name-slice line (i + 1) e (omega (arith, v.begins)) v.ends z in
      record { begins = p; ends = v.ends; read = rw (← b, z, w) })
      (λ (q : eqb 32 (get_or line i 0) ≡ false). some-none v.found (rw (next line i l, q))) (cases_Bool (eqb 32 (get_or line i 0)))

-- a word among one
member-one : (x y : Word) → member x (y ∷ []) ≡ same x y
member-one x y = or-false (same x y)

-- NAMES FROM ONE PLACE TO ANOTHER
spaced-split : (m n : ℕ) (s : List ℕ) → spaced (m + n) s ≡ spaced m s ++ spaced n (drop m s)
spaced-split zero n s = rw (let z : zero + n ≡ n = omega arith in z)
spaced-split (suc m) zero [] = rw (let z : suc m + zero ≡ suc m = omega arith in z)
spaced-split (suc m) (suc n) [] = rw (let z : suc m + suc n ≡ suc (m + suc n) = omega arith in z)
spaced-split (suc m) n (b ∷ s) = rw (let z : suc m + n ≡ suc (m + n) = omega arith in z) (ap (λ (ws : List Word). behind b s ++ ws) (spaced-split m n s) ∙ sym (append_assoc (behind b s) (spaced m s) (spaced n (drop m s))))

module _ (line : List ℕ) (a i e : ℕ) (h : a ≤ i) (k : i ≤ e) where
  spaced-between : spaced (e - a) (drop a line) ≡ spaced (i - a) (drop a line) ++ spaced (e - i) (drop i line)
  spaced-between =
      let z : e - a ≡ (i - a) + (e - i) = omega arith in
      let y : a + (i - a) ≡ i = omega arith in
      let d : drop (i - a) (drop a line) ≡ drop i line = drop-drop (i - a) a line ∙ ap (λ (n : ℕ). drop n line) y in
      rw z (spaced-split (i - a) (e - i) (drop a line) ∙ ap (λ (s : List ℕ). spaced (i - a) (drop a line) ++ spaced (e - i) s) d)

-- the first byte
spaced-first : (line : List ℕ) (i e : ℕ) → i < e → i < length line → spaced (e - i) (drop i line) ≡ behind_at line i ++ spaced (e - (i + 1)) (drop (i + 1) line)
unfolding behind_at
spaced-first line i e h l = let z : e - i ≡ suc (e - (i + 1)) = omega arith in rw (z, next line i l)

same-behind : (line : List ℕ) (i x : ℕ) (w : Word) → BehindEnd line i x → same w (take (x - (i + 1)) (drop (i + 1) line)) ≡ member w (behind_at line i)
same-behind line i x w v = rw (v.read, member-one w (slice (i + 1) x line), slice-part line (i + 1) x (omega (arith, v.begins)))

-- whether the word stands behind byte i, where the name there ends, if there is one
pub behind-said : (line : List ℕ) (i : ℕ) (w : Word) → i < length line → {P : ℕ → Type 0} (e : std.Option ℕ) (r : Bool) → Ends (after_space name) line i e → MatchOption e (r ≡ false) P
    → ((x : ℕ) → P x → r ≡ same w (take (x - (i + 1)) (drop (i + 1) line))) → r ≡ member w (behind_at line i)
behind-said line i w l None r v h k = rw (behind_none line i l v) h
behind-said line i w l (Some x) r v h k = k x h ∙ same-behind line i x w (behind-found line i l v)

-- whether the word stands behind one of the n bytes from i on
pub stands-any : (line : List ℕ) (w : Word) (n i : ℕ) → i + n ≤ length line → list_any (λ k. member w (behind_at line k)) (range_with_len i n) ≡ member w (spaced n (drop i line))
unfolding behind_at
stands-any line w zero i h = refl
stands-any line w (suc n) i h = rw (stands-any line w n (i + 1) (omega arith), next line i (omega arith)) (sym (member-append w (behind (get_or line i 0) (drop (i + 1) line)) (spaced n (drop (i + 1) line))))

-- BEFORE A BYTE
module _ (line : List ℕ) (p : Part) where
  before_split : (i e : ℕ) → p.from ≤ i → i ≤ e → before line p e ≡ before line p i ++ spaced (e - i) (drop i line)
  unfolding before
  before_split i e h k =
      ap (λ (ws : List Word). leading line p ++ ws) (spaced-between line p.from i e h k)
      ∙ sym (append_assoc (leading line p) (spaced (i - p.from) (drop p.from line)) (spaced (e - i) (drop i line)))

  before_more : (i : ℕ) → p.from ≤ i → i < length line → before line p (i + 1) ≡ before line p i ++ behind_at line i
  before_more i h l =
      let z : i + 1 - (i + 1) ≡ 0 = omega arith in
      before_split i (i + 1) h (omega arith) ∙ ap (λ (ws : List Word). before line p i ++ ws) (spaced-first line i (i + 1) (omega arith) l ∙ rw z (append-nil (behind_at line i)))

  -- whether a word stands before byte i
  pub before-member : (i : ℕ) (w : Word) → member w (before line p i) ≡ (member w (heading line p.head) || member w (spaced (i - p.from) (drop p.from line)))
  unfolding before
  before-member i w = member-append w (heading line p.head) (spaced (i - p.from) (drop p.from line))

-- WHAT IS KNOWN
member-extend : (x : Word) (vs xs : List Word) → member x (extend vs xs) ≡ (member x vs || member x xs)
unfolding extend
member-extend x vs [] = sym (or-false (member x vs))
member-extend x vs (y ∷ ys) = ⊎_elim
    (λ (q : member y vs ≡ true). rw q (member-extend x vs ys ∙ ⊎_elim
    (λ (r : same x y ≡ true). rw (r, subst (λ (w : Word). member w vs ≡ true) (sym (same-eq x y r)) q))
    (λ (r : same x y ≡ false). rw r) (cases_Bool (same x y))))
    (λ (q : member y vs ≡ false). rw q (member-extend x (vs ++ (y ∷ [])) ys ∙ rw (member-append x vs (y ∷ []), or-false (same x y)) (or_assoc (member x vs) (same x y) (member x ys))))
    (cases_Bool (member y vs))

member-firsts : (x : Word) (xs : List Word) → member x (extend [] xs) ≡ member x xs
member-firsts x xs = member-extend x [] xs

extend-old : (vs : List Word) (x : Word) → member x vs ≡ true → extend vs (x ∷ []) ≡ vs
unfolding extend
extend-old vs x h = rw h

extend-fresh : (vs : List Word) (x : Word) → member x vs ≡ false → extend vs (x ∷ []) ≡ vs ++ (x ∷ [])
unfolding extend
extend-fresh vs x h = rw h

module _ (line : List ℕ) (p : Part) (i : ℕ) where
  pub stale-none : behind_at line i ≡ [] → IsStale line p i
  unfolding extend
  stale-none h = rw h

  pub stale-known : {e : ℕ} → BehindEnd line i e → true ≡ member (take (e - (i + 1)) (drop (i + 1) line)) (before line p i) → IsStale line p i
  stale-known {e} v h =
      let x = slice (i + 1) e line in
      let k : member x (before line p i) ≡ true = rw (slice-part line (i + 1) e (omega (arith, v.begins))) (sym h) in
      rw v.read (extend-old (extend [] (before line p i)) x (member-firsts x (before line p i) ∙ k))

  pub fresh-found : {e : ℕ} → BehindEnd line i e → false ≡ member (take (e - (i + 1)) (drop (i + 1) line)) (before line p i) → FreshEnd line p i e
  fresh-found {e} v h = record { behind = v; fresh = rw (slice-part line (i + 1) e (omega (arith, v.begins))) (sym h) }

-- COUNTING
pick-kept : (j : ℕ) (vs xs : List Word) → j < length vs → pick (vs ++ xs) j ≡ pick vs j
pick-kept j [] xs h = absurd (omega arith)
pick-kept zero (v ∷ vs) xs h = refl
pick-kept (suc j) (v ∷ vs) xs h = pick-kept j vs xs (omega arith)

pick-extend : (j : ℕ) (vs xs : List Word) → j < length vs → pick (extend vs xs) j ≡ pick vs j
unfolding extend
pick-extend j vs [] h = refl
pick-extend j vs (x ∷ xs) h = ⊎_elim
    (λ (q : member x vs ≡ true). rw q (pick-extend j vs xs h))
    (λ (q : member x vs ≡ false). rw q (pick-extend j (vs ++ (x ∷ [])) xs (omega (arith, length-append vs (x ∷ []))) ∙ pick-kept j vs (x ∷ []) h))
    (cases_Bool (member x vs))

pick-last : (vs : List Word) (x : Word) → pick (vs ++ (x ∷ [])) (length vs) ≡ some x
pick-last [] x = refl
pick-last (v ∷ vs) x = pick-last vs x

-- c variables stand before byte i
pub record Counted (line : List ℕ) (p : Part) (j i c : ℕ) : Type 0 where
  pub begins : p.from ≤ i
  pub ends : i ≤ p.end
  pub count : length (extend [] (before line p i)) ≡ c
  pub few : c ≤ j

pub counted_start : {line : List ℕ} {p : Part} {j n : ℕ} → Within line p → length (heading line p.head) ≡ n → n ≤ j → Counted line p j p.from n
unfolding before extend
counted_start {line} {p} {j} {n} w h k =
    let z : p.from - p.from ≡ 0 = omega arith in
    record { begins = omega arith; ends = w.from; count = rw (z, append-nil (leading line p)) (lead ∙ h); few = k }
  where
    lead : length (extend [] (heading line p.head)) ≡ length (heading line p.head)
    lead = go p.head
      where
        go : (h : std.Option Span) → length (extend [] (heading line h)) ≡ length (heading line h)
        go None = refl
        go (Some h) = refl

module _ {line : List ℕ} {p : Part} {j i c : ℕ} (so : Counted line p j i c) (w : Within line p) where
  pub counted-end : p.end ≤ i → Shown line (pick (extend [] (before line p p.end)) j) None
  counted-end h =
      let z : i ≡ p.end = omega (arith, so.ends) in
      rw (pick_out (extend [] (before line p p.end)) j (omega (arith, so.few, subst (λ (k : ℕ). length (extend [] (before line p k)) ≡ c) z so.count))) tt

  module _ (l : i < p.end) where
    inside : i < length line
    inside = omega (arith, w.end)

    more : extend [] (before line p (i + 1)) ≡ extend (extend [] (before line p i)) (behind_at line i)
    more = ap (extend []) (before_more line p i so.begins inside) ∙ extend-append [] (before line p i) (behind_at line i)

    pub counted-old : IsStale line p i → Counted line p j (i + 1) c
    counted-old v = record {
      begins = omega (arith, so.begins);
      ends = omega arith;
      count = ap length (more ∙ v) ∙ so.count;
      few = so.few;
    }

    module _ {e : ℕ} (v : FreshEnd line p i e) where
      fresh : extend [] (before line p (i + 1)) ≡ extend [] (before line p i) ++ (slice (i + 1) e line ∷ [])
      fresh =
          more ∙ rw v.behind.read (extend-fresh (extend [] (before line p i)) (slice (i + 1) e line) (member-firsts (slice (i + 1) e line) (before line p i) ∙ v.fresh))

      pub counted-new : (c ≡ j → ⊥) → Counted line p j (i + 1) (c + 1)
      counted-new h = record {
        begins = omega (arith, so.begins);
        ends = omega arith;
        count = ap length fresh ∙ omega (arith, so.count, length-append (extend [] (before line p i)) (slice (i + 1) e line ∷ []));
        few = omega (arith, so.few);
      }

      pub counted-found : c ≡ j → Shown line (pick (extend [] (before line p p.end)) j) (Some (record { from = i + 1; to = e }))
      counted-found h =
          let vs = extend [] (before line p i) in
          let x = slice (i + 1) e line in
          let tail = spaced (p.end - (i + 1)) (drop (i + 1) line) in
          let whole : extend [] (before line p p.end) ≡ extend (vs ++ (x ∷ [])) tail
          = ap (extend []) (before_split line p (i + 1) p.end (omega (arith, so.begins)) (omega arith)) ∙ (extend-append [] (before line p (i + 1)) tail ∙ ap (λ (us : List Word). extend us tail) fresh) in
          let n : length vs ≡ j = so.count ∙ h in
          let found : pick (extend [] (before line p p.end)) j ≡ some x
          = ap (λ (us : List Word). pick us j) whole ∙ (pick-extend j (vs ++ (x ∷ [])) tail (omega (arith, length-append vs (x ∷ []))) ∙ subst (λ (k : ℕ). pick (vs ++ (x ∷ [])) k ≡ some x) n (pick-last vs x)) in
          rw found (v.behind.begins, v.behind.ends, refl)

-- THE HEAD
pub head_first : (line : List ℕ) (p : Part) (h : Span) (j : ℕ) → Within line p → p.head ≡ Some h → j ≡ 0 → Shown line (pick (extend [] (before line p p.end)) j) (Some h)
unfolding before extend
head_first line p h j w e z =
    let within : Heads line (Some h) = rw e at w.head in
    rw (e, z, pick-extend 0 (slice h.from h.to line ∷ []) (spaced (p.end - p.from) (drop p.from line)) (omega arith)) (within.0, within.1, refl)
