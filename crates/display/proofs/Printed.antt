-- WHAT WAS READ WAS PRINTED.
use mathlib.Core.Path.{◌≡◌, sym, ap, ◌∙◌}
use mathlib.Core.Logic.{⊎_elim}
use mathlib.Core.List.{List, ◌∷◌, ◌++◌, append_assoc}
use mathlib.Core.Option.{some}
use Prim.Native.Nat.{ℕ, zero, suc}
use native.Mathlib.Omega.{arith}
use lib.ListN.{length}
use Rattle.grammar.specs.Bytes.{bytes, Word}
use Rattle.grammar.specs.Forms.{Atom, Literal, print_rest, print_word, print_atom, print_literal}
use Rattle.grammar.specs.Shapes.{name, rest, atom, literal}
use Rattle.display_parts.proofs.Inverse.{after-inverse, name-joined, rest-inverse, atom-inverse, literal-inverse}

names-printed : (n : ℕ) (s : List ℕ) {xs : List Word} {t : List ℕ} → rest name n s ≡ some (xs, t) → s ≡ print_rest print_word xs ++ t
names-printed zero s e = ⊎_elim
    (λ (p, h). rw p (after-inverse (bytes ")") s h))
    (λ c. absurd (omega (arith, c.5))) (rest-inverse name zero s e)
names-printed (suc n) s {xs} {t} e = ⊎_elim
    (λ (p, h). rw p (after-inverse (bytes ")") s h))
    (λ (m, x, ys, u, v, z, p, h, k, l, r).
    let y : m ≡ n = omega arith in
    let w = names-printed n v (rw y at r) in
    rw p (after-inverse (bytes " ") s k ∙ ap (λ (b : List ℕ). 32 ∷ b) (name-joined u l ∙ (ap (λ (b : List ℕ). x ++ b) w ∙ sym (append_assoc x (print_rest print_word ys) t)))))
    (rest-inverse name (suc n) s e)

atom-printed : (s : List ℕ) {a : Atom} {t : List ℕ} → atom s ≡ some (a, t) → s ≡ print_atom a ++ t
atom-printed s {a} {t} e =
    let (u, v, h, k, r) = atom-inverse s e in
    after-inverse (bytes "(") s h ∙ ap (λ (b : List ℕ). 40 ∷ b) (name-joined u k ∙ (ap (λ (b : List ℕ). a.name ++ b) (names-printed (length s) v r) ∙ sym (append_assoc a.name (print_rest print_word a.variables) t)))

pub literal-printed : (s : List ℕ) {l : Literal} {t : List ℕ} → literal s ≡ some (l, t) → s ≡ print_literal l ++ t
literal-printed s {l} {t} e = ⊎_elim
    (λ (a, u, v, p, h, k, c).
    rw p (after-inverse (bytes "(not ") s h ∙ ap (λ (b : List ℕ). bytes "(not " ++ b) (atom-printed u k ∙ (ap (λ (b : List ℕ). print_atom a ++ b) (after-inverse (bytes ")") v c) ∙ sym (append_assoc (print_atom a) (bytes ")") t)))))
    (λ (a, p, k). rw p (atom-printed s k)) (literal-inverse s e)
