-- THE PRINTER'S LAW: reading what is printed of a form gives the form back.
use mathlib.Core.Path.{◌≡◌, refl, sym, subst}
use mathlib.Core.Logic.{⊎_elim}
use mathlib.Core.Bool.{Bool, true, false, not, ◌&&◌}
use mathlib.Core.List.{List, [], ◌∷◌, ◌++◌, append_assoc, append-nil}
use mathlib.Core.Option.{none, some}
use Prim.Native.Nat.{ℕ, zero, suc, ◌+◌, ◌-◌, ◌≤◌}
use native.Mathlib.Nat.{not-suc-le-zero, le_of_suc-le-suc}
use native.Mathlib.Omega.{arith}
use lib.Dec.{eqb, leb, ltb}
use lib.ListN.{length, length-append}
use borrow.Author.Tests.{eqb-true, ne_eqb, leb-true, le-leb, not-true}
use Rattle.std.proofs.lemmas.Bool.{cases_Bool}
use Rattle.limits.specs.Limits as limit
use Rattle.grammar.specs.Bytes.{bytes, letter, alphanumeric, every, Word, same, is_name}
use Rattle.grammar.specs.Forms.{Atom, Literal, plain, negated, Form, state_form, rel_form, rule_form, new_form, next_form, ask_form, print_rest, print_bracket, print_word, print_atom, print_literal, print, all, proper_atom, proper_literal, proper_list, proper_body, proper_stage, proper}
use Rattle.grammar.specs.Shapes.{Read, after, word, after_word, name, rest, bracket, atom, literal, list, body, stage, arity, state_rest, rel_rest, rule_rest, new_rest, next_rest, ask_rest, line, form_of}
use Rattle.grammar.proofs.Tests.{clash, and_left, and_right, eqb_same}

-- the bytes begin with none that belongs to a word
abbrev pub Stops : List ℕ → Type 0
Stops [] = Unit {0}
Stops (b ∷ s) = alphanumeric b ≡ false

pub after-own : (w s : List ℕ) → after w (w ++ s) ≡ some s
after-own [] s = refl
after-own (b ∷ w) s = rw (eqb_same b) (after-own w s)

pub word_back : (w s : List ℕ) → every alphanumeric w ≡ true → Stops s → word (w ++ s) ≡ w
word_back [] [] e h = refl
word_back [] (b ∷ s) e h = rw h
word_back (b ∷ w) s e h = rw (and_left (alphanumeric b) (every alphanumeric w) e, word_back w s (and_right (alphanumeric b) (every alphanumeric w) e) h)

pub after_word-back : (w s : List ℕ) → every alphanumeric w ≡ true → Stops s → after_word (w ++ s) ≡ s
after_word-back [] [] e h = refl
after_word-back [] (b ∷ s) e h = rw h
after_word-back (b ∷ w) s e h = rw (and_left (alphanumeric b) (every alphanumeric w) e) (after_word-back w s (and_right (alphanumeric b) (every alphanumeric w) e) h)

-- what a name is made of
pub name-letter : (b : ℕ) (w : Word) → is_name (b ∷ w) ≡ true → letter b ≡ true
unfolding is_name
name-letter b w e = and_left (letter b) (every alphanumeric w) (and_left (letter b && every alphanumeric w) (leb (length w) 15) (and_left (letter b && every alphanumeric w && leb (length w) 15) (not (same (b ∷ w) (bytes "not"))) e))

pub name-every : (w : Word) → is_name w ≡ true → every alphanumeric w ≡ true
unfolding is_name alphanumeric
name-every [] e = refl
name-every (b ∷ w) e = rw (name-letter b w e) (and_right (letter b) (every alphanumeric w) (and_left (letter b && every alphanumeric w) (leb (length w) 15) (and_left (letter b && every alphanumeric w && leb (length w) 15) (not (same (b ∷ w) (bytes "not"))) e)))

pub name-not : (w : Word) → is_name w ≡ true → same w (bytes "not") ≡ false
unfolding is_name
name-not [] e = refl
name-not (b ∷ w) e = not-true (same (b ∷ w) (bytes "not")) (and_right (letter b && every alphanumeric w && leb (length w) 15) (not (same (b ∷ w) (bytes "not"))) e)

pub name_back : (w : Word) → is_name w ≡ true → (s : List ℕ) → Stops s → name (w ++ s) ≡ some (w, s)
unfolding name
name_back w e s h = rw (word_back w s (name-every w e) h, after_word-back w s (name-every w e) h, e)

-- an item is read back, whatever follows it
abbrev pub Back : {A : Type 0} → (A → Bool) → (List ℕ → Read A) → (A → List ℕ) → Type 0
Back {A} ok item printed = (x : A) → ok x ≡ true → (s : List ℕ) → Stops s → item (printed x ++ s) ≡ some (x, s)

module _ {A : Type 0} (ok : A → Bool) (item : List ℕ → Read A) (printed : A → List ℕ) (back : Back ok item printed) where
  rest-stops : (xs : List A) (s : List ℕ) → Stops (print_rest printed xs ++ s)
  unfolding alphanumeric
  rest-stops [] s = refl
  rest-stops (x ∷ xs) s = refl

  pub rest_back : (n : ℕ) (xs : List A) → all ok xs ≡ true → length xs ≤ n → (s : List ℕ) → rest item n (print_rest printed xs ++ s) ≡ some (xs, s)
  unfolding rest
  rest_back zero [] e h s = refl
  rest_back zero (x ∷ xs) e h s = absurd (not-suc-le-zero h)
  rest_back (suc n) [] e h s = refl
  rest_back (suc n) (x ∷ xs) e h s =
      rw (
        append_assoc (printed x) (print_rest printed xs) s,
        back x (and_left (ok x) (all ok xs) e) (print_rest printed xs ++ s) (rest-stops xs s),
        rest_back n xs (and_right (ok x) (all ok xs) e) (le_of_suc-le-suc h) s,
      )

  pub bracket-back : (n : ℕ) (x : A) (xs : List A) → all ok (x ∷ xs) ≡ true → length xs ≤ n → (s : List ℕ) → bracket item n (print_bracket printed (x ∷ xs) ++ s) ≡ some (x ∷ xs, s)
  unfolding bracket
  bracket-back n x xs e h s =
      rw (
        append_assoc (printed x) (print_rest printed xs) s,
        back x (and_left (ok x) (all ok xs) e) (print_rest printed xs ++ s) (rest-stops xs s),
        rest_back n xs (and_right (ok x) (all ok xs) e) h s,
      )

  -- there are no more items than bytes
  pub rest-long : (xs : List A) → length xs ≤ length (print_rest printed xs)
  rest-long [] = omega arith
  rest-long (x ∷ xs) = let h = rest-long xs in omega (arith, length-append (printed x) (print_rest printed xs))

pub atom-back : Back proper_atom atom print_atom
unfolding atom
atom-back a e s h =
    let r = print_rest print_word a.variables in
    let n = a.name in
    rw (
      append_assoc n r s,
      name_back n (and_left (is_name n) (all is_name a.variables) e) (r ++ s) (rest-stops is_name name print_word name_back a.variables s),
      rest_back is_name name print_word name_back (suc (length (n ++ (r ++ s)))) a.variables (and_right (is_name n) (all is_name a.variables) e)
          (let l = rest-long is_name name print_word name_back a.variables in omega (arith, length-append n (r ++ s), length-append r s)) s,
    )

-- a bracket that begins with a name other than `not` does not begin `(not `
pub after-other : (k w : Word) (b : ℕ) (s : List ℕ) → every alphanumeric k ≡ true → every alphanumeric w ≡ true → same w k ≡ false → alphanumeric b ≡ false
    → after (k ++ (32 ∷ [])) (w ++ (b ∷ s)) ≡ none
unfolding alphanumeric
after-other [] [] b s p q e h = clash refl e
after-other [] (c ∷ w) b s p q e h = rw (ne_eqb 32 c (λ z. clash (and_left (alphanumeric c) (every alphanumeric w) q) (subst (λ (x : ℕ). alphanumeric x ≡ false) z refl)))
after-other (d ∷ k) [] b s p q e h = rw (ne_eqb d b (λ z. clash (and_left (alphanumeric d) (every alphanumeric k) p) (subst (λ (x : ℕ). alphanumeric x ≡ false) (sym z) h)))
after-other (d ∷ k) (c ∷ w) b s p q e h = ⊎_elim
    (λ (z : eqb d c ≡ true). rw z (after-other k w b s (and_right (alphanumeric d) (every alphanumeric k) p) (and_right (alphanumeric c) (every alphanumeric w) q)
    (rw (← eqb-true d c z, eqb_same d) at e) h))
    (λ (z : eqb d c ≡ false). rw z) (cases_Bool (eqb d c))

pub not-begins : (a : Atom) → proper_atom a ≡ true → (s : List ℕ) → after (bytes "(not ") (print_atom a ++ s) ≡ none
unfolding alphanumeric
not-begins a e s = go a.variables
  where
    n : Word
    n = a.name

    ok : is_name n ≡ true
    ok = and_left (is_name n) (all is_name a.variables) e

    go : (xs : List Word) → after (bytes "(not ") ((bytes "(" ++ (n ++ print_rest print_word xs)) ++ s) ≡ none
    go [] = rw (append_assoc n (bytes ")") s) (after-other (bytes "not") n 41 s refl (name-every n ok) (name-not n ok) refl)
    go (x ∷ xs) = rw (append_assoc n (print_rest print_word (x ∷ xs)) s) (after-other (bytes "not") n 32 ((x ++ print_rest print_word xs) ++ s) refl (name-every n ok) (name-not n ok) refl)

pub literal-back : Back proper_literal literal print_literal
unfolding literal alphanumeric
literal-back (plain a) e s h = rw (not-begins a e s, atom-back a e s h)
literal-back (negated a) e s h = rw (append_assoc (print_atom a) (bytes ")") s, atom-back a e (bytes ")" ++ s) refl)

pub list_back : (l : List Word) → proper_list l ≡ true → (s : List ℕ) → list (print_bracket print_word l ++ s) ≡ some (l, s)
unfolding list is_name
list_back [] e s = refl
list_back ([] ∷ ws) e s = clash e refl
list_back ((b ∷ w) ∷ ws) e s =
    let l = (b ∷ w) ∷ ws in
    let p = and_left (all is_name l) (leb (length l) limit.list) e in
    let z = leb-true (length l) limit.list (and_right (all is_name l) (leb (length l) limit.list) e) in
    rw (ne_eqb 41 b (λ q. clash (name-letter b w (and_left (is_name (b ∷ w)) (all is_name ws) p)) (subst (λ (x : ℕ). letter x ≡ false) q refl)))
    (bracket-back is_name name print_word name_back (limit.list - 1) (b ∷ w) ws p (omega arith) s)

pub body_back : (b : List Literal) → proper_body b ≡ true → (s : List ℕ) → body (print_rest print_literal b ++ s) ≡ some (b, s)
unfolding body
body_back b e s = rest_back proper_literal literal print_literal literal-back 8 b (and_left (all proper_literal b) (leb (length b) 8) e) (leb-true (length b) 8 (and_right (all proper_literal b) (leb (length b) 8) e)) s

pub stage-back : Back proper_stage stage (print_bracket print_literal)
unfolding stage
stage-back [] e s h = clash e refl
stage-back (l ∷ q) e s h =
    let p = and_left (proper_body (l ∷ q)) (ltb 0 (length (l ∷ q))) e in
    bracket-back proper_literal literal print_literal literal-back 7 l q (and_left (all proper_literal (l ∷ q)) (leb (length (l ∷ q)) 8) p)
    (let z = leb-true (length (l ∷ q)) 8 (and_right (all proper_literal (l ∷ q)) (leb (length (l ∷ q)) 8) p) in omega arith) s

pub arity-back : (n : ℕ) → leb n 2 ≡ true → (s : List ℕ) → arity ((n + 48) ∷ s) ≡ some (n, s)
arity-back n e s =
    let z = leb-true n 2 e in
    let back : n + 48 - 48 ≡ n = omega arith in
    rw (le-leb 48 (n + 48) (omega arith), le-leb (n + 48) 50 (omega arith), back)

-- a line's last part
rest-stop : {A : Type 0} (printed : A → List ℕ) (xs : List A) → Stops (print_rest printed xs)
unfolding alphanumeric
rest-stop printed [] = refl
rest-stop printed (x ∷ xs) = refl

body_end : (b : List Literal) → proper_body b ≡ true → body (print_rest print_literal b) ≡ some (b, [])
body_end b e = rw append-nil at (body_back b e [])

stages-end : (qs : List (List Literal)) → all proper_stage qs ≡ true → length qs ≤ 3 → rest stage 3 (print_rest (print_bracket print_literal) qs) ≡ some (qs, [])
stages-end qs e h = rw append-nil at (rest_back proper_stage stage (print_bracket print_literal) stage-back 3 qs e h [])

-- each line is read back to its end
line-back : (f : Form) → proper f ≡ true → line (print f) ≡ some (f, [])
unfolding line state_rest rel_rest rule_rest new_rest next_rest ask_rest alphanumeric
line-back (state_form w) e = rw (name_back w e (bytes ")") refl)
line-back (rel_form w n) e =
    rw (
      name_back w (and_left (is_name w) (leb n 2) e) (bytes " " ++ ((n + 48) ∷ bytes ")")) refl,
      arity-back n (and_right (is_name w) (leb n 2) e) (bytes ")"),
    )
line-back (rule_form h b) e =
    rw (
      atom-back h (and_left (proper_atom h) (proper_body b) e) (print_rest print_literal b) (rest-stop print_literal b),
      body_end b (and_right (proper_atom h) (proper_body b) e),
    )
line-back (new_form l b) e =
    rw (list_back l (and_left (proper_list l) (proper_body b) e) (print_rest print_literal b), body_end b (and_right (proper_list l) (proper_body b) e))
line-back (next_form x p m b) e =
    let h = and_left (is_name x && proper_list p && proper_list m) (proper_body b) e in
    let k = and_left (is_name x && proper_list p) (proper_list m) h in
    let r = print_rest print_literal b in
    rw (
      name_back x (and_left (is_name x) (proper_list p) k) (bytes " " ++ (print_bracket print_word p ++ (bytes " " ++ (print_bracket print_word m ++ r)))) refl,
      list_back p (and_right (is_name x) (proper_list p) k) (bytes " " ++ (print_bracket print_word m ++ r)),
      list_back m (and_right (is_name x && proper_list p) (proper_list m) h) r,
      body_end b (and_right (is_name x && proper_list p && proper_list m) (proper_body b) e),
    )
line-back (ask_form []) e = clash e refl
line-back (ask_form (q ∷ qs)) e =
    let n = length (q ∷ qs) in
    let h = and_left (all proper_stage (q ∷ qs)) (ltb 0 n) (and_left (all proper_stage (q ∷ qs) && ltb 0 n) (leb n 4) e) in
    let z = leb-true n 4 (and_right (all proper_stage (q ∷ qs) && ltb 0 n) (leb n 4) e) in
    rw (
      stage-back q (and_left (proper_stage q) (all proper_stage qs) h) (print_rest (print_bracket print_literal) qs) (rest-stop (print_bracket print_literal) qs),
      stages-end qs (and_right (proper_stage q) (all proper_stage qs) h) (omega arith),
    )

-- THE LAW: a form that keeps the limits is read back from what is printed of it
pub read_back : (f : Form) → proper f ≡ true → form_of (print f) ≡ some f
unfolding form_of
read_back f e = rw (line-back f e)
