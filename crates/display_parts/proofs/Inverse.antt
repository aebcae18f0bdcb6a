-- WHAT WAS READ, taken apart.
use mathlib.Core.Path.{◌≡◌, refl, sym, ap, ◌∙◌}
use mathlib.Core.Logic.{◌⊎◌, inl, inr, ⊎_elim}
use mathlib.Core.Bool.{true, false}
use mathlib.Core.List.{List, [], ◌∷◌, ◌++◌}
use mathlib.Core.Option.{Option, none, some, get_or}
use Prim.Native.Nat.{ℕ, zero, suc}
use lib.Dec.{eqb}
use lib.ListN.{length}
use borrow.Author.Tests.{eqb-true}
use Rattle.std.proofs.lemmas.Bool.{cases_Bool}
use Rattle.grammar.specs.Bytes.{bytes, alphanumeric, is_name}
use Rattle.grammar.specs.Forms.{Atom, Literal, plain, negated}
use Rattle.grammar.specs.Shapes.{Read, ◌>>=◌, after, word, after_word, name, rest, bracket, atom, literal}
use Rattle.display_shapes.proofs.Rows.{some-none, same_read}
use Rattle.grammar.proofs.Reading.{onto, rest-closes, rest-full, rest-ends, rest-fails, rest-item}

-- there is something or nothing
pub found : {A : Type 0} (o : Option A) → (o ≡ none) ⊎ ((x : A) × (o ≡ some x))
found none = inl refl
found (some x) = inr (x, refl)

-- what is read first, and what is read behind it
pub bind-inverse : {A B : Type 0} (o : Option A) (f : A → Option B) {y : B} → (o >>= f) ≡ some y → (x : A) × (o ≡ some x) × (f x ≡ some y)
bind-inverse none f e = some-none e refl
bind-inverse (some x) f e = (x, refl, e)

pub after-inverse : (w s : List ℕ) {t : List ℕ} → after w s ≡ some t → s ≡ w ++ t
after-inverse [] s {t} e = ap (λ (o : Option (List ℕ)). get_or o s) e
after-inverse (b ∷ w) [] e = some-none e refl
after-inverse (b ∷ w) (c ∷ s) e = ⊎_elim
    (λ (q : eqb b c ≡ true). let z = eqb-true b c q in let y = after-inverse w s (rw q at e) in cc)
    (λ (q : eqb b c ≡ false). some-none (rw q at e) refl) (cases_Bool (eqb b c))

word-parts : (s : List ℕ) → s ≡ word s ++ after_word s
word-parts [] = refl
word-parts (b ∷ s) = ⊎_elim (λ q. rw q (ap (λ (u : List ℕ). b ∷ u) (word-parts s))) (λ q. rw q) (cases_Bool (alphanumeric b))

-- a name, and the bytes behind it
pub name-inverse : (s : List ℕ) {w t : List ℕ} → name s ≡ some (w, t) → (w ≡ word s) × (t ≡ after_word s)
unfolding name
name-inverse s e = ⊎_elim
    (λ (q : is_name (word s) ≡ true). let (x, y) = same_read (rw q at e) in (sym x, sym y))
    (λ (q : is_name (word s) ≡ false). some-none (rw q at e) refl) (cases_Bool (is_name (word s)))

pub name-joined : (s : List ℕ) {w t : List ℕ} → name s ≡ some (w, t) → s ≡ w ++ t
name-joined s e = let (p, q) = name-inverse s e in rw (p, q) (word-parts s)

-- ITEMS: the bracket ends, or one item more is read
module _ {A : Type 0} (item : List ℕ → Read A) where
  abbrev pub Closes : List ℕ → List A → List ℕ → Type 0
  Closes s xs t = (xs ≡ []) × (after (bytes ")") s ≡ some t)

  abbrev pub Continues : ℕ → List ℕ → List A → List ℕ → Type 0
  Continues n s xs t = (m : ℕ) × (x : A) × (ys : List A) × (u : List ℕ) × (v : List ℕ)
      × (n ≡ suc m) × (xs ≡ x ∷ ys) × (after (bytes ")") s ≡ none) × (after (bytes " ") s ≡ some u) × (item u ≡ some (x, v)) × (rest item m v ≡ some (ys, t))

  item-more : (m : ℕ) (s : List ℕ) {xs : List A} {t u v : List ℕ} {x : A} → rest item (suc m) s ≡ some (xs, t) → after (bytes ")") s ≡ none → after (bytes " ") s ≡ some u → item u ≡ some (x, v) → (o : Read (List A)) → rest item m v ≡ o
      → Continues (suc m) s xs t
  item-more m s e h k l none q = some-none e (rest-item item m s h k l ∙ ap (onto (_ ∷ [])) q)
  item-more m s {u = u} {v = v} {x = x} e h k l (some (ys, t)) q =
      let (p, r) = same_read (sym e ∙ (rest-item item m s h k l ∙ ap (onto (x ∷ [])) q)) in
      (m, x, ys, u, v, refl, p, h, k, l, q ∙ ap (λ (z : List ℕ). some (ys, z)) (sym r))

  open-inverse : (n : ℕ) (s : List ℕ) {xs : List A} {t : List ℕ} → rest item n s ≡ some (xs, t) → after (bytes ")") s ≡ none → Continues n s xs t
  open-inverse zero s e h = some-none e (rest-full item s h)
  open-inverse (suc m) s e h = ⊎_elim
      (λ k. some-none e (rest-ends item (suc m) s h k))
      (λ (u, k). ⊎_elim
      (λ l. some-none e (rest-fails item (suc m) s h k l))
      (λ (p, l). item-more m s e h k l (rest item m p.1) refl)
      (found (item u)))
      (found (after (bytes " ") s))

  pub rest-inverse : (n : ℕ) (s : List ℕ) {xs : List A} {t : List ℕ} → rest item n s ≡ some (xs, t) → Closes s xs t ⊎ Continues n s xs t
  rest-inverse n s e = ⊎_elim
      (λ h. inr (open-inverse n s e h))
      (λ (u, h). inl (let (p, q) = same_read (sym e ∙ rest-closes item n s h) in (p, h ∙ ap some (sym q))))
      (found (after (bytes ")") s))

  pub bracket-inverse : (n : ℕ) (s : List ℕ) {xs : List A} {t : List ℕ} → bracket item n s ≡ some (xs, t)
      → (x : A) × (ys : List A) × (u : List ℕ) × (v : List ℕ) × (xs ≡ x ∷ ys) × (after (bytes "(") s ≡ some u) × (item u ≡ some (x, v)) × (rest item n v ≡ some (ys, t))
  unfolding bracket
  bracket-inverse n s e =
      let (u, h, k) = bind-inverse (after (bytes "(") s) _ e in
      let ((x, v), l, m) = bind-inverse (item u) _ k in
      let ((ys, w), o, p) = bind-inverse (rest item n v) _ m in
      let (q, r) = same_read p in
      (x, ys, u, v, sym q, h, l, o ∙ ap (λ (z : List ℕ). some (ys, z)) r)

-- ATOMS AND LITERALS
pub atom-inverse : (s : List ℕ) {a : Atom} {t : List ℕ} → atom s ≡ some (a, t)
    → (u : List ℕ) × (v : List ℕ) × (after (bytes "(") s ≡ some u) × (name u ≡ some (a.name, v)) × (rest name (length s) v ≡ some (a.variables, t))
unfolding atom
atom-inverse s {a} {t} e =
    let (u, h, k) = bind-inverse (after (bytes "(") s) _ e in
    let ((r, v), l, m) = bind-inverse (name u) _ k in
    let ((xs, w), o, p) = bind-inverse (rest name (length s) v) _ m in
    let (q, z) = same_read p in
    (u, v, h, l ∙ ap (λ (y : Atom). some (y.name, v)) q, o ∙ (ap (λ (y : Atom). some (y.variables, w)) q ∙ ap (λ (y : List ℕ). some (a.variables, y)) z))

abbrev pub IsNegated : List ℕ → Literal → List ℕ → Type 0
IsNegated s l t = (a : Atom) × (u : List ℕ) × (v : List ℕ) × (l ≡ negated a) × (after (bytes "(not ") s ≡ some u) × (atom u ≡ some (a, v)) × (after (bytes ")") v ≡ some t)

abbrev pub IsPlain : List ℕ → Literal → List ℕ → Type 0
IsPlain s l t = (a : Atom) × (l ≡ plain a) × (atom s ≡ some (a, t))

pub literal-inverse : (s : List ℕ) {l : Literal} {t : List ℕ} → literal s ≡ some (l, t) → IsNegated s l t ⊎ IsPlain s l t
unfolding literal
literal-inverse s {l} {t} e = ⊎_elim
    (λ h. inr (
    let ((a, u), k, m) = bind-inverse (atom s) _ (rw h at e) in
    let (q, z) = same_read m in
    (a, sym q, k ∙ ap (λ (y : List ℕ). some (a, y)) z)))
    (λ (u, h). inl (
    let ((a, v), k, m) = bind-inverse (atom u) _ (rw h at e) in
    let (w, o, p) = bind-inverse (after (bytes ")") v) _ m in
    let (q, z) = same_read p in
    (a, u, v, sym q, h, k, o ∙ ap some z)))
    (found (after (bytes "(not ") s))
