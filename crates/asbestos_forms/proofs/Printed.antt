-- WHAT IS PRINTED OF FORMS IS READ LINE BY LINE: each line is the form again, in allowed bytes.
use mathlib.Core.Path.{◌≡◌, refl, ap, sym, ◌∙◌, subst}
use mathlib.Core.Bool.{Bool, true, false, ◌&&◌, or-true}
use mathlib.Core.List.{List, [], ◌∷◌, ◌++◌, append_assoc, append-nil}
use Prim.Native.Nat.{ℕ, zero, suc, ◌+◌, ◌≤◌, ◌<◌}
use native.Mathlib.Nat.{add-zero}
use native.Mathlib.Omega.{arith}
use lib.Dec.{leb, ltb}
use lib.ListN.{length, length-append}
use borrow.Author.Tests.{ne_eqb, leb-true, le-leb}
use Rattle.limits.specs.Limits as limit
use Rattle.semantics.specs.Models.{Line, Program}
use Rattle.grammar.specs.Bytes.{bytes, letter, alphanumeric, allowed, every, Word, is_name, ended, lines}
use Rattle.grammar.specs.Forms.{Atom, Literal, plain, negated, Form, state_form, rel_form, rule_form, new_form, next_form, ask_form, print_rest, print_bracket, print_word, print_atom, print_literal, print, all, proper_atom, proper_literal, proper_list, proper_body, proper_stage, proper}
use Rattle.grammar.specs.Declarations.{Declared}
use Rattle.grammar.specs.Rows.{fault}
use Rattle.grammar.specs.Texts.{Outcome, adds, asks, judge, effect, step, finish, read_lines}
use Rattle.grammar.proofs.Tests.{clash, and_left, and_right, and_both}
use Rattle.grammar.proofs.Printing.{name-every, read_back}
use Rattle.asbestos.specs.Desk.{each, numbered}
use Rattle.asbestos_forms.specs.Forms.{printed}

-- ALLOWED BYTES
every_append : (s t : List ℕ) → every allowed s ≡ true → every allowed t ≡ true → every allowed (s ++ t) ≡ true
every_append [] t p q = q
every_append (b ∷ s) t p q = and_both (and_left (allowed b) (every allowed s) p) (every_append s t (and_right (allowed b) (every allowed s) p) q)

word-allowed : (w : Word) → every alphanumeric w ≡ true → every allowed w ≡ true
unfolding allowed
word-allowed [] e = refl
word-allowed (b ∷ w) e = rw (and_left (alphanumeric b) (every alphanumeric w) e) (word-allowed w (and_right (alphanumeric b) (every alphanumeric w) e))

name-allowed : (w : Word) → is_name w ≡ true → every allowed w ≡ true
name-allowed w e = word-allowed w (name-every w e)

module _ {A : Type 0} (ok : A → Bool) (printed-item : A → List ℕ) (good-item : (x : A) → ok x ≡ true → every allowed (printed-item x) ≡ true) where
  rest-allowed : (xs : List A) → all ok xs ≡ true → every allowed (print_rest printed-item xs) ≡ true
  unfolding allowed alphanumeric
  rest-allowed [] e = refl
  rest-allowed (x ∷ xs) e = every_append (printed-item x) (print_rest printed-item xs) (good-item x (and_left (ok x) (all ok xs) e)) (rest-allowed xs (and_right (ok x) (all ok xs) e))

  bracket-allowed : (xs : List A) → all ok xs ≡ true → every allowed (print_bracket printed-item xs) ≡ true
  unfolding allowed alphanumeric
  bracket-allowed [] e = refl
  bracket-allowed (x ∷ xs) e = every_append (printed-item x) (print_rest printed-item xs) (good-item x (and_left (ok x) (all ok xs) e)) (rest-allowed xs (and_right (ok x) (all ok xs) e))

atom-allowed : (a : Atom) → proper_atom a ≡ true → every allowed (print_atom a) ≡ true
atom-allowed a e = bracket-allowed is_name print_word name-allowed (a.name ∷ a.variables) e

literal-allowed : (l : Literal) → proper_literal l ≡ true → every allowed (print_literal l) ≡ true
unfolding allowed alphanumeric
literal-allowed (plain a) e = atom-allowed a e
literal-allowed (negated a) e = every_append (print_atom a) (bytes ")") (atom-allowed a e) refl

list-allowed : (l : List Word) → proper_list l ≡ true → every allowed (print_bracket print_word l) ≡ true
list-allowed l e = bracket-allowed is_name print_word name-allowed l (and_left (all is_name l) (leb (length l) limit.list) e)

body-allowed : (b : List Literal) → proper_body b ≡ true → every allowed (print_rest print_literal b) ≡ true
body-allowed b e = rest-allowed proper_literal print_literal literal-allowed b (and_left (all proper_literal b) (leb (length b) limit.body) e)

stage-allowed : (q : List Literal) → proper_stage q ≡ true → every allowed (print_bracket print_literal q) ≡ true
stage-allowed q e = bracket-allowed proper_literal print_literal literal-allowed q (and_left (all proper_literal q) (leb (length q) limit.body) (and_left (proper_body q) (ltb 0 (length q)) e))

arity-allowed : (n : ℕ) → leb n 2 ≡ true → allowed (n + 48) ≡ true
unfolding allowed alphanumeric
arity-allowed n e = let z = leb-true n 2 e in rw (le-leb 48 (n + 48) (omega arith), le-leb (n + 48) 57 (omega arith), or-true (letter (n + 48)))

form-allowed : (f : Form) → proper f ≡ true → every allowed (print f) ≡ true
unfolding allowed alphanumeric
form-allowed (state_form w) e = every_append w (bytes ")") (name-allowed w e) refl
form-allowed (rel_form w n) e = every_append w (bytes " " ++ ((n + 48) ∷ bytes ")")) (name-allowed w (and_left (is_name w) (leb n 2) e)) (rw (arity-allowed n (and_right (is_name w) (leb n 2) e)))
form-allowed (rule_form h b) e = every_append (print_atom h) (print_rest print_literal b) (atom-allowed h (and_left (proper_atom h) (proper_body b) e)) (body-allowed b (and_right (proper_atom h) (proper_body b) e))
form-allowed (new_form l b) e = every_append (print_bracket print_word l) (print_rest print_literal b) (list-allowed l (and_left (proper_list l) (proper_body b) e)) (body-allowed b (and_right (proper_list l) (proper_body b) e))
form-allowed (next_form x p m b) e =
    let h = and_left (is_name x && proper_list p && proper_list m) (proper_body b) e in
    let k = and_left (is_name x && proper_list p) (proper_list m) h in
    every_append x _ (name-allowed x (and_left (is_name x) (proper_list p) k))
    (every_append (print_bracket print_word p) _ (list-allowed p (and_right (is_name x) (proper_list p) k))
    (every_append (print_bracket print_word m) _ (list-allowed m (and_right (is_name x && proper_list p) (proper_list m) h))
    (body-allowed b (and_right (is_name x && proper_list p && proper_list m) (proper_body b) e))))
form-allowed (ask_form []) e = clash e refl
form-allowed (ask_form (q ∷ qs)) e =
    let n = length (q ∷ qs) in
    let h = and_left (all proper_stage (q ∷ qs)) (ltb 0 n) (and_left (all proper_stage (q ∷ qs) && ltb 0 n) (leb n limit.stages) e) in
    every_append (print_bracket print_literal q) _ (stage-allowed q (and_left (proper_stage q) (all proper_stage qs) h))
    (rest-allowed proper_stage (print_bracket print_literal) stage-allowed qs (and_right (proper_stage q) (all proper_stage qs) h))

-- LINES
not-ten : allowed 10 ≡ false
unfolding allowed alphanumeric
not-ten = refl

lines-ended : (s t : List ℕ) → every allowed s ≡ true → lines (s ++ (10 ∷ t)) ≡ ended s ∷ lines t
lines-ended [] t e = refl
lines-ended (b ∷ s) t e = rw (ne_eqb b 10 (λ z. clash (and_left (allowed b) (every allowed s) e) (subst (λ (x : ℕ). allowed x ≡ false) (sym z) not-ten)), lines-ended s t (and_right (allowed b) (every allowed s) e))

pub printed-append : (fs gs : List Form) → printed (fs ++ gs) ≡ printed fs ++ printed gs
printed-append [] gs = refl
printed-append (f ∷ fs) gs = rw (printed-append fs gs) (sym (append_assoc (print f) (bytes "\n" ++ printed fs) (printed gs)))

-- ONE LINE
module _ (f : Form) (shaped : proper f ≡ true) (n : ℕ) (D : Declared) (P : Program) (faultless : fault D (length P) f ≡ 0) where
  stepped : step n D P (judge (ended (print f))) ≡ effect n D P f
  unfolding step judge
  stepped = rw (form-allowed f shaped, read_back f shaped, faultless)

  -- that adds to what was read
  pub line-adds : (E : Declared) (Q : Program) → effect n D P f ≡ adds E Q → (t : List ℕ) → read_lines n D P (lines (print f ++ (10 ∷ t))) ≡ read_lines (suc n) E Q (lines t)
  unfolding read_lines
  line-adds E Q e t = rw (lines-ended (print f) t (form-allowed f shaped), read_lines, stepped, e)

  -- the last one, that asks
  pub line-asks : (o : Outcome) → effect n D P f ≡ asks o → read_lines n D P (lines (print f ++ (10 ∷ []))) ≡ o
  unfolding read_lines finish
  line-asks o e = rw (lines-ended (print f) [] (form-allowed f shaped), read_lines, stepped, e)

next-number : (n k : ℕ) → suc n + k ≡ n + suc k
next-number n k = omega arith

-- CLAUSES: what a form says as a line of the program, after the declarations D
pub record Says (D : Declared) (f : Form) (l : Line) : Type 0 where
  pub shaped : proper f ≡ true
  pub faultless : (c : ℕ) → c < limit.clauses → fault D c f ≡ 0
  pub does : (n : ℕ) (P : Program) → effect n D P f ≡ adds D (P ++ ((n, l) ∷ []))

module _ (D : Declared) where
  abbrev pub AllSay : List Form → List Line → Type 0
  AllSay [] [] = Unit {0}
  AllSay [] (l ∷ ls) = ⊥
  AllSay (f ∷ fs) [] = ⊥
  AllSay (f ∷ fs) (l ∷ ls) = Says D f l × AllSay fs ls

  pub say-append : (fs : List Form) (ls : List Line) (gs : List Form) (ms : List Line) → AllSay fs ls → AllSay gs ms → AllSay (fs ++ gs) (ls ++ ms)
  say-append [] [] gs ms h k = k
  say-append [] (l ∷ ls) gs ms h k = absurd h
  say-append (f ∷ fs) [] gs ms h k = absurd h
  say-append (f ∷ fs) (l ∷ ls) gs ms h k = (h.0, say-append fs ls gs ms h.1 k)

  pub say-each : (n : ℕ) (f : ℕ → List Form) (g : ℕ → List Line) → ((i : ℕ) → i < n → AllSay (f i) (g i)) → AllSay (each n f) (each n g)
  say-each zero f g h = tt
  say-each (suc n) f g h = say-append (each n f) (each n g) (f n) (g n) (say-each n f g (λ i l. h i (omega arith))) (h n (omega arith))

  -- lines that say clauses add them, with their numbers
  pub lines-add : (fs : List Form) (ls : List Line) → AllSay fs ls → (n : ℕ) (P : Program) (t : List ℕ) → length P + length ls ≤ limit.clauses
      → read_lines n D P (lines (printed fs ++ t)) ≡ read_lines (n + length ls) D (P ++ numbered n ls) (lines t)
  lines-add [] [] h n P t few = rw (append-nil P, add-zero n)
  lines-add [] (l ∷ ls) h n P t few = absurd h
  lines-add (f ∷ fs) [] h n P t few = absurd h
  lines-add (f ∷ fs) (l ∷ ls) h n P t few =
      let one = P ++ ((n, l) ∷ []) in
      ap (λ (s : List ℕ). read_lines n D P (lines s)) (append_assoc (print f) (bytes "\n" ++ printed fs) t)
      ∙ line-adds f h.0.shaped n D P (h.0.faultless (length P) (omega arith)) D one (h.0.does n P) (printed fs ++ t)
      ∙ lines-add fs ls h.1 (suc n) one t (omega (arith, length-append P ((n, l) ∷ [])))
      ∙ rw (append_assoc P ((n, l) ∷ []) (numbered (suc n) ls), next-number n (length ls))
