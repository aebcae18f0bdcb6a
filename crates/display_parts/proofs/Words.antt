-- THE NAMES BEHIND SPACES are the variables of what was read; and what was read stands in a row.
use mathlib.Core.Path.{◌≡◌, refl, sym, ap, ◌∙◌, subst}
use mathlib.Core.Logic.{⊎_elim}
use mathlib.Core.Bool.{true, false}
use mathlib.Core.List.{List, [], ◌∷◌, ◌++◌, append_assoc, append_cancel_right}
use mathlib.Core.Option.{none, some}
use Prim.Native.Nat.{ℕ, zero, suc, ◌+◌, ◌-◌, ◌≤◌}
use native.Mathlib.Omega.{arith}
use lib.Dec.{eqb}
use lib.ListN.{length, drop}
use lib.Seq.{drop-drop}
use borrow.Author.Tests.{ne_eqb}
use Rattle.std.proofs.lemmas.Bool.{cases_Bool}
use Rattle.grammar.specs.Bytes.{bytes, alphanumeric, Word, is_name}
use Rattle.grammar.specs.Forms.{Atom, Literal}
use Rattle.grammar.specs.Shapes.{Read, after, after_word, name, rest, bracket, atom, literal}
use Rattle.grammar.specs.Declarations.{variables_of, variables}
use Rattle.grammar.proofs.Tests.{clash}
use Rattle.display_shapes.specs.Rows.{Row}
use Rattle.display_parts.specs.Placed.{behind, spaced}
use Rattle.display_parts.proofs.Inverse.{after-inverse, name-inverse, rest-inverse, bracket-inverse, atom-inverse, literal-inverse}

-- the names behind all spaces
abbrev pub words : List ℕ → List Word
words [] = []
words (b ∷ s) = behind b s ++ words s

spaced-words : (n : ℕ) (s : List ℕ) → words s ≡ spaced n s ++ words (drop n s)
spaced-words zero s = refl
spaced-words (suc n) [] = refl
spaced-words (suc n) (b ∷ s) = ap (λ (ws : List Word). behind b s ++ ws) (spaced-words n s) ∙ sym (append_assoc (behind b s) (spaced n s) (words (drop n s)))

-- those from one place to another
pub words-between : (s : List ℕ) (a e : ℕ) (ws : List Word) → a ≤ e → words (drop a s) ≡ ws ++ words (drop e s) → spaced (e - a) (drop a s) ≡ ws
words-between s a e ws h k =
    let z : a + (e - a) ≡ e = omega arith in
    let d : drop (e - a) (drop a s) ≡ drop e s = drop-drop (e - a) a s ∙ ap (λ (n : ℕ). drop n s) z in
    let w = spaced-words (e - a) (drop a s) ∙ ap (λ (t : List ℕ). spaced (e - a) (drop a s) ++ words t) d in
    append_cancel_right (spaced (e - a) (drop a s)) ws (words (drop e s)) (sym w ∙ k)

no-space : (b : ℕ) → alphanumeric b ≡ true → eqb b 32 ≡ false
unfolding alphanumeric
no-space b h = ne_eqb b 32 (λ z. clash h (subst (λ (x : ℕ). alphanumeric x ≡ false) (sym z) refl))

word-words : (s : List ℕ) → words s ≡ words (after_word s)
word-words [] = refl
word-words (b ∷ s) = ⊎_elim (λ (q : alphanumeric b ≡ true). rw (q, no-space b q) (word-words s)) (λ (q : alphanumeric b ≡ false). rw q) (cases_Bool (alphanumeric b))

pub name-words : (s : List ℕ) {w t : List ℕ} → name s ≡ some (w, t) → words s ≡ words t
name-words s e = word-words s ∙ ap words (sym (name-inverse s e).1)

-- no name begins with a bracket
opened-name : (s : List ℕ) {u : List ℕ} → after (bytes "(") s ≡ some u → name s ≡ none
unfolding name is_name alphanumeric
opened-name s h = subst (λ (x : List ℕ). name x ≡ none) (sym (after-inverse (bytes "(") s h)) refl

closed-words : (s : List ℕ) {t : List ℕ} → after (bytes ")") s ≡ some t → words s ≡ words t
closed-words s h = ap words (after-inverse (bytes ")") s h)

opened-words : (s : List ℕ) {t : List ℕ} → after (bytes "(") s ≡ some t → words s ≡ words t
opened-words s h = ap words (after-inverse (bytes "(") s h)

name-more : (s : List ℕ) {u v : List ℕ} {x : Word} → after (bytes " ") s ≡ some u → name u ≡ some (x, v) → words s ≡ x ∷ words v
name-more s {u} {v} {x} k l = ap words (after-inverse (bytes " ") s k) ∙ rw l (ap (λ (ws : List Word). x ∷ ws) (name-words u l))

no-name-more : (s : List ℕ) {u : List ℕ} → after (bytes " ") s ≡ some u → name u ≡ none → words s ≡ words u
no-name-more s k l = ap words (after-inverse (bytes " ") s k) ∙ rw l

names-words : (n : ℕ) (s : List ℕ) {xs : List Word} {t : List ℕ} → rest name n s ≡ some (xs, t) → words s ≡ xs ++ words t
names-words zero s e = ⊎_elim
    (λ (p, h). rw p (closed-words s h))
    (λ c. absurd (omega (arith, c.5))) (rest-inverse name zero s e)
names-words (suc n) s {xs} {t} e = ⊎_elim
    (λ (p, h). rw p (closed-words s h))
    (λ (m, x, ys, u, v, z, p, h, k, l, r).
    let y : m ≡ n = omega arith in
    rw p (name-more s k l ∙ ap (λ (ws : List Word). x ∷ ws) (names-words n v (rw y at r))))
    (rest-inverse name (suc n) s e)

pub atom-words : (s : List ℕ) {a : Atom} {t : List ℕ} → atom s ≡ some (a, t) → words s ≡ a.variables ++ words t
atom-words s e = let (u, v, h, k, r) = atom-inverse s e in opened-words s h ∙ (name-words u k ∙ names-words (length s) v r)

literal-words : (s : List ℕ) {l : Literal} {t : List ℕ} → literal s ≡ some (l, t) → words s ≡ variables_of l ++ words t
literal-words s {l} {t} e = ⊎_elim
    (λ (a, u, v, p, h, k, c).
    let o = atom-inverse u k in
    rw p (ap words (after-inverse (bytes "(not ") s h) ∙ (rw (opened-name u o.2) (atom-words u k) ∙ ap (λ (ws : List Word). a.variables ++ ws) (closed-words v c))))
    (λ (a, p, k). rw p (atom-words s k)) (literal-inverse s e)

-- a literal begins with a bracket
literal-opens : (s : List ℕ) {l : Literal} {t : List ℕ} → literal s ≡ some (l, t) → name s ≡ none
unfolding name is_name alphanumeric
literal-opens s e = ⊎_elim
    (λ (a, u, v, p, h, k, c). subst (λ (x : List ℕ). name x ≡ none) (sym (after-inverse (bytes "(not ") s h)) refl)
    (λ (a, p, k). opened-name s (atom-inverse s k).2) (literal-inverse s e)

pub body-words : (n : ℕ) (s : List ℕ) {b : List Literal} {t : List ℕ} → rest literal n s ≡ some (b, t) → words s ≡ variables b ++ words t
unfolding variables
body-words zero s e = ⊎_elim
    (λ (p, h). rw p (closed-words s h))
    (λ c. absurd (omega (arith, c.5))) (rest-inverse literal zero s e)
body-words (suc n) s {b} {t} e = ⊎_elim
    (λ (p, h). rw p (closed-words s h))
    (λ (m, x, ys, u, v, z, p, h, k, l, r).
    let y : m ≡ n = omega arith in
    let w = body-words n v (rw y at r) in
    rw p (no-name-more s k (literal-opens u l) ∙ (literal-words u l ∙ (ap (λ (ws : List Word). variables_of x ++ ws) w ∙ sym (append_assoc (variables_of x) (variables ys) (words t))))))
    (rest-inverse literal (suc n) s e)

pub stage-words : (n : ℕ) (s : List ℕ) {q : List Literal} {t : List ℕ} → bracket literal n s ≡ some (q, t) → words s ≡ variables q ++ words t
unfolding variables
stage-words n s {q} {t} e =
    let (x, ys, u, v, p, h, l, r) = bracket-inverse literal n s e in
    rw p (opened-words s h ∙ (literal-words u l ∙ (ap (λ (ws : List Word). variables_of x ++ ws) (body-words n v r) ∙ sym (append_assoc (variables_of x) (variables ys) (words t)))))

-- ROWS
module _ {A : Type 0} (item : List ℕ → Read A) where
  pub rest-row : (n : ℕ) (s : List ℕ) {xs : List A} {t : List ℕ} → rest item n s ≡ some (xs, t) → Row item s xs
  rest-row zero s {xs} {t} e = ⊎_elim
      (λ (p, h). subst (λ (ys : List A). Row item s ys) (sym p) (t, h))
      (λ c. absurd (omega (arith, c.5))) (rest-inverse item zero s e)
  rest-row (suc n) s {xs} {t} e = ⊎_elim
      (λ (p, h). subst (λ (ys : List A). Row item s ys) (sym p) (t, h))
      (λ (m, x, ys, u, v, z, p, h, k, l, r).
      let y : m ≡ n = omega arith in
      subst (λ (zs : List A). Row item s zs) (sym p) (32, u, v, after-inverse (bytes " ") s k, h, l, rest-row n v (rw y at r)))
      (rest-inverse item (suc n) s e)

  pub bracket-row : (n : ℕ) (s : List ℕ) {xs : List A} {t : List ℕ} → bracket item n s ≡ some (xs, t) → Row item s xs
  bracket-row n s e =
      let (x, ys, u, v, p, h, l, r) = bracket-inverse item n s e in
      let o = after-inverse (bytes "(") s h in
      subst (λ (zs : List A). Row item s zs) (sym p) (40, u, v, o, subst (λ (z : List ℕ). after (bytes ")") z ≡ none) (sym o) refl, l, rest-row n v r)
