-- Laws of items in a row.
use mathlib.Core.Bool.{false≢true}
use mathlib.Core.Path.{◌≡◌, refl, sym, ap, ◌∙◌, subst}
use mathlib.Core.List.{List, [], ◌∷◌}
use mathlib.Core.Option
use mathlib.Core.Option.{Option, none, some}
use Prim.Native.Nat.{ℕ, zero, suc, ◌+◌, ◌-◌, ◌≤◌, ◌<◌}
use native.Mathlib.Omega.{arith}
use lib.ListN.{length, drop, get_or}
use Rattle.grammar.specs.Bytes.{bytes}
use Rattle.grammar.specs.Shapes.{Read, after}
use Rattle.text_scan.proofs.Laws.{next, nothing}
use Rattle.display_shapes.specs.Rows.{pick, Row, BehindAt, Behind, Picked}
use Rattle.display_shapes.specs.declared.Span.{Span}
use Rattle.std.specs.Prelude as std
use Rattle.std.specs.Prelude.{Some, None}

pub some-none : {A B : Type 0} {o : Option A} {x : A} → o ≡ some x → o ≡ none → B
some-none p q = absurd (false≢true cc)

-- PLACES IN A LIST
pub pick-in : {A : Type 0} (xs : List A) (i : ℕ) (d : A) → i < length xs → pick xs i ≡ some (get_or xs i d)
pick-in [] i d h = absurd (omega arith)
pick-in (x ∷ xs) zero d h = refl
pick-in (x ∷ xs) (suc i) d h = pick-in xs i d (omega arith)

pub pick_out : {A : Type 0} (xs : List A) (i : ℕ) → length xs ≤ i → pick xs i ≡ none
pick_out [] i h = refl
pick_out (x ∷ xs) zero h = absurd (omega arith)
pick_out (x ∷ xs) (suc i) h = pick_out xs i (omega arith)

-- WALKING ALONG A ROW: the items xs are left at i, and item k of all is item n of them
pub record Walking {A : Type 0} (read : List ℕ → Read A) (text : List ℕ) (at k i n : ℕ) : Type 0 where
  pub ends : i ≤ length text
  pub left : (xs : List A) → Row read (drop at text) xs → (ys : List A) × Row read (drop i text) ys × (pick xs k ≡ pick ys n)

-- the item and the bytes left
pub same_read : {A : Type 0} {x y : A} {s t : List ℕ} → ◌≡◌ {A = Read A} (some (x, s)) (some (y, t)) → (x ≡ y) × (s ≡ t)
same_read {A} {x} {y} {s} {t} e = (ap (λ (o : Read A). (Option.get_or o (x, s)).0) e, ap (λ (o : Read A). (Option.get_or o (x, s)).1) e)

module _ {A : Type 0} (read : List ℕ → Read A) where
  no_row : {B : Type 0} (s : List ℕ) (xs : List A) → s ≡ [] → Row read s xs → B
  no_row s [] z (t, e) = some-none e (rw z)
  no_row s (x ∷ xs) z (c, t, u, e, f, g, r) = absurd (false≢true cc)

  -- one item is read from the row
  front : (text : List ℕ) (i : ℕ) (xs : List A) {x : A} {u : List ℕ} → i < length text → after (bytes ")") (drop i text) ≡ none → read (drop (i + 1) text) ≡ some (x, u) → Row read (drop i text) xs
      → (ys : List A) × (xs ≡ x ∷ ys) × Row read u ys
  front text i [] l h k (t, e) = some-none e h
  front text i (y ∷ ys) {x} {u} l h k (c, t, v, e, f, g, r) =
      let w = sym e ∙ next text i l in
      let z : t ≡ drop (i + 1) text = cc in
      let (p, q) = same_read (sym (subst (λ (s : List ℕ). read s ≡ some (y, v)) z g) ∙ k) in
      (ys, ap (λ (a : A). a ∷ ys) p, subst (λ (s : List ℕ). Row read s ys) q r)

  no_front : (text : List ℕ) (i : ℕ) {B : Type 0} (xs : List A) → i < length text → after (bytes ")") (drop i text) ≡ none → read (drop (i + 1) text) ≡ none → Row read (drop i text) xs → B
  no_front text i [] l h k (t, e) = some-none e h
  no_front text i (y ∷ ys) l h k (c, t, v, e, f, g, r) =
      let w = sym e ∙ next text i l in
      let z : t ≡ drop (i + 1) text = cc in
      some-none (subst (λ (s : List ℕ). read s ≡ some (y, v)) z g) k

-- NO ITEM BEHIND BYTE i
module _ {A : Type 0} (read : List ℕ → Read A) (text : List ℕ) (i : ℕ) where
  pub none-out : length text ≤ i → (xs : List A) → Row read (drop i text) xs → xs ≡ []
  none-out h xs r = no_row read (drop i text) xs (nothing text i h) r

  pub none-closed : {t : List ℕ} → after (bytes ")") (drop i text) ≡ some t → (xs : List A) → Row read (drop i text) xs → xs ≡ []
  none-closed h [] r = refl
  none-closed h (x ∷ xs) (c, t, u, z, f, g, r) = some-none h f

  pub none-fails : i < length text → after (bytes ")") (drop i text) ≡ none → read (drop (i + 1) text) ≡ none → (xs : List A) → Row read (drop i text) xs → xs ≡ []
  none-fails l h e xs r = no_front read text i xs l h e r

module _ {A : Type 0} {read : List ℕ → Read A} {text : List ℕ} {at k i n : ℕ} (so : Walking read text at k i n) where
  pub walking-ends : ((xs : List A) → Row read (drop i text) xs → xs ≡ []) → Picked read text at k None
  walking-ends h xs r = let (ys, q, e) = so.left xs r in rw (e, h ys q) tt

  module _ {s : Span} (b : BehindAt read text i s) where
    pub walking-found : n ≡ 0 → Picked read text at k (Some s)
    walking-found y xs r =
        let (ys, q, p) = so.left xs r in
        let v = b.item in
        let (zs, o, w) = front read text i ys b.inside b.open_ v.found q in
        let m : pick xs k ≡ some v.value = p ∙ (ap (pick ys) y ∙ ap (λ (bs : List A). pick bs 0) o) in
        rw m (omega (arith, b.begins, v.begins), v.ends, rw b.begins v.found)

    pub walking-more : 0 < n → Walking read text at k s.to (n - 1)
    walking-more y = record { ends = b.item.ends; left = λ xs r. go n y xs (so.left xs r) }
      where
        go : (m : ℕ) → 0 < m → (xs : List A) → ((ys : List A) × Row read (drop i text) ys × (pick xs k ≡ pick ys m)) → (ys : List A) × Row read (drop s.to text) ys × (pick xs k ≡ pick ys (m - 1))
        go zero c xs r = absurd (omega arith)
        go (suc m) c xs (ys, q, p) =
            let v = b.item in
            let (zs, o, w) = front read text i ys b.inside b.open_ v.found q in
            let d : suc m - 1 ≡ m = omega arith in
            (zs, w, rw d (p ∙ ap (λ (bs : List A). pick bs (suc m)) o))

-- the item behind the byte where the walk ends, or none
pub walking-last : {A : Type 0} {read : List ℕ → Read A} {text : List ℕ} {at k i n : ℕ} → Walking read text at k i n → n ≡ 0 → (r : std.Option Span) → Behind read text i r → Picked read text at k r
walking-last so z None b = walking-ends so b
walking-last so z (Some s) b = walking-found so b z
