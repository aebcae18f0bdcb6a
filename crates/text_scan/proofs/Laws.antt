-- Laws of places in a text, words and lines.
use mathlib.Core.Path.{◌≡◌, refl, sym, ap, ◌∙◌}
use mathlib.Core.Logic.{⊎_elim, ◌⊎◌}
use mathlib.Core.Bool.{Bool, true, false, not, ◌&&◌, ◌||◌, and-true, and-false, or-true}
use Rattle.std.proofs.lemmas.Bool.{cases_Bool}
use Rattle.std.specs.Prelude.{MatchOption}
use Rattle.std.specs.Bool.{then_some}
use Rattle.std.specs.List.{position, AllWithin}
use Rattle.std.specs.Option.{unwrap_or}
use Rattle.std.proofs.lemmas.List.Recursion.{is_position_or_len}
use Rattle.std.specs.Char.{is_ascii_alphanumeric}
use Rattle.std.specs.Cmp.Lexicographic.{pointwise}
use mathlib.Core.List.{List, [], ◌∷◌, ◌++◌, append-nil}
use mathlib.Core.Option.{none, some}
use Prim.Native.Nat.{ℕ, zero, suc, ◌+◌, ◌-◌, ◌≤◌, ◌<◌}
use native.Mathlib.Nat.{sub-zero, suc-sub-suc, le_of_suc-le-suc, add-zero}
use native.Mathlib.Numerals.{add-one, one-add}
use native.Mathlib.Omega.{arith}
use lib.Dec.{eqb, leb, ltb}
use lib.ListN.{length, take, drop, get_or, length-drop, drop_of_length-le}
use lib.Seq.{slice, slice_empty, slice-cons, drop-drop, drop-cons, take-suc, length-take-le, drop-append-le, take-nil, get_or-drop}
use borrow.Author.Tests.{ltb-false, lt-leb, le-leb, eqb-true, eqb-false, eq-eqb, ne_eqb}
use Rattle.grammar.specs.Bytes.{bytes, letter, alphanumeric, allowed, every, Line, ended, unended, in_front, lines, Word, same, is_name}
use Rattle.grammar.specs.Shapes.{after, word, after_word, name}
use Rattle.grammar.specs.Texts.{judge, bad}
use Rattle.grammar.proofs.Tests.{clash, and_left, and_right, and_both}
use Rattle.text_scan.specs.Found.{NextBytes, WordEnd, NameEnd, BadLine, LineEnd}

-- PLACES
module _ (text : List ℕ) (i : ℕ) where
  -- one byte more
  pub next : i < length text → drop i text ≡ get_or text i 0 ∷ drop (i + 1) text
  next h = rw (add-one, drop-cons text i 0)

  pub nothing : length text ≤ i → drop i text ≡ []
  nothing h = drop_of_length-le text h

  pub slice-more : (at : ℕ) → at ≤ i → i < length text → slice at (i + 1) text ≡ slice at i text ++ (get_or text i 0 ∷ [])
  slice-more at h k =
      rw (add-one, take-suc text i 0 k)
      (drop-append-le at (take i text) (get_or text i 0 ∷ []) (omega (arith, length-take-le i text (omega arith))))

-- a part of a text, as code takes it
pub slice-part : (text : List ℕ) (at e : ℕ) → at ≤ e → slice at e text ≡ take (e - at) (drop at text)
slice-part text zero e h = rw (sub-zero e)
slice-part text (suc at) zero h = absurd (omega arith)
slice-part [] (suc at) (suc e) h = sym (take-nil (suc e - suc at))
slice-part (b ∷ text) (suc at) (suc e) h = rw (suc-sub-suc e at) (slice-part text at e (le_of_suc-le-suc h))

-- TESTS
or_turn : (a b c : Bool) → (c || a || b) ≡ (a || b || c)
or_turn true b c = rw or-true
or_turn false true true = refl
or_turn false true false = refl
or_turn false false true = refl
or_turn false false false = refl

-- as std tests it
pub alphanumeric-ascii : (b : ℕ) → is_ascii_alphanumeric b ≡ alphanumeric b
unfolding alphanumeric
alphanumeric-ascii b = or_turn (leb 65 b && leb b 90) (leb 97 b && leb b 122) (leb 48 b && leb b 57)

-- what std's test of a beginning says
after-starts : (w s : List ℕ) → pointwise eqb w (take (length w) s) ≡ true → (length w ≤ length s) × (after w s ≡ some (drop (length w) s))
after-starts [] s h = (omega arith, refl)
after-starts (b ∷ w) [] h = clash h refl
after-starts (b ∷ w) (c ∷ s) h =
    let p = and_left (eqb b c) (pointwise eqb w (take (length w) s)) h in
    let f = after-starts w s (and_right (eqb b c) (pointwise eqb w (take (length w) s)) h) in
    (omega (arith, f.0), rw p f.1)

after-other : (w s : List ℕ) → pointwise eqb w (take (length w) s) ≡ false → after w s ≡ none
after-other [] s h = clash refl h
after-other (b ∷ w) [] h = refl
after-other (b ∷ w) (c ∷ s) h = ⊎_elim (λ (q : eqb b c ≡ true). rw q (after-other w s (rw q at h))) (λ (q : eqb b c ≡ false). rw q) (cases_Bool (eqb b c))

pub bytes_next : {text : List ℕ} {at : ℕ} {w : List ℕ} {r : Bool} → at ≤ length text → r ≡ pointwise eqb w (take (length w) (drop at text)) → NextBytes text at w r
bytes_next {text} {at} {w} h e = record {
  found = λ q. let f = after-starts w (drop at text) (sym e ∙ q) in (omega (arith, f.0, length-drop at text), f.1 ∙ rw drop-drop);
  missing = λ q. after-other w (drop at text) (sym e ∙ q);
}

-- WORDS
word-within : (s : List ℕ) → length (word s) ≤ length s
word-within [] = omega arith
word-within (b ∷ s) = ⊎_elim (λ (q : alphanumeric b ≡ true). rw q (omega (arith, word-within s))) (λ (q : alphanumeric b ≡ false). rw q (omega arith)) (cases_Bool (alphanumeric b))

word-taken : (s : List ℕ) → word s ≡ take (length (word s)) s
word-taken [] = refl
word-taken (b ∷ s) = ⊎_elim (λ (q : alphanumeric b ≡ true). rw q (ap (λ (w : Word). b ∷ w) (word-taken s))) (λ (q : alphanumeric b ≡ false). rw q) (cases_Bool (alphanumeric b))

word-left : (s : List ℕ) → after_word s ≡ drop (length (word s)) s
word-left [] = refl
word-left (b ∷ s) = ⊎_elim (λ (q : alphanumeric b ≡ true). rw q (word-left s)) (λ (q : alphanumeric b ≡ false). rw q) (cases_Bool (alphanumeric b))

-- `position` of a byte that is neither a letter nor a digit, or the length
pub word-position : (s : List ℕ) → unwrap_or (position (λ b. not (alphanumeric b)) s) (length s) ≡ length (word s)
word-position s =
    let e = is_position_or_len (λ w. length (word w)) (λ b. not (alphanumeric b)) refl (λ y ys. ⊎_elim (λ (q : alphanumeric y ≡ true). rw q (sym (one-add (length (word ys))))) (λ (q : alphanumeric y ≡ false). rw q) (cases_Bool (alphanumeric y))) s in
    rw (← e) (⊎_elim
    (λ (q : ltb (length (word s)) (length s) ≡ true). rw q)
    (λ (q : ltb (length (word s)) (length s) ≡ false). rw q (omega (arith, word-within s, ltb-false (length (word s)) (length s) q)))
    (cases_Bool (ltb (length (word s)) (length s))))

pub word_end : (text : List ℕ) (at : ℕ) {n : ℕ} → at ≤ length text → n ≡ length (word (drop at text)) → WordEnd text at (at + n)
word_end text at {n} h e =
    let s = drop at text in
    let z : at + n - at ≡ length (word s) = omega (arith, e) in
    record {
      begins = omega arith;
      ends = omega (arith, e, word-within s, length-drop at text);
      read = rw (slice-part text at (at + n) (omega arith), z) (word-taken s);
      left = rw (e, ← drop-drop) (word-left s);
    }

pub every-word : (s : List ℕ) → every alphanumeric (word s) ≡ true
every-word [] = refl
every-word (b ∷ s) = ⊎_elim (λ (q : alphanumeric b ≡ true). rw (q, q) (every-word s)) (λ (q : alphanumeric b ≡ false). rw q) (cases_Bool (alphanumeric b))

-- NAMES
-- a word of letters and digits is a name by its first byte, its length and what it is not
pub named : (w : Word) → every alphanumeric w ≡ true → 0 < length w → length w ≤ 16 → same w (bytes "not") ≡ false → letter (get_or w 0 0) ≡ is_name w
unfolding is_name
named [] h k l m = absurd (omega arith)
named (b ∷ w) h k l m = rw (and_right (alphanumeric b) (every alphanumeric w) h, m, le-leb (length w) 15 (omega arith)) (sym (and-true (letter b && true && true) ∙ and-true (letter b && true) ∙ and-true (letter b)))

pub nameless : (w : Word) → (length w ≡ 0) ⊎ (16 < length w) ⊎ (same w (bytes "not") ≡ true) → is_name w ≡ false
unfolding is_name
nameless [] h = refl
nameless (b ∷ w) h = ⊎_elim (λ q. absurd (omega arith)) (λ h. ⊎_elim
    (λ q. rw (lt-leb (length w) 15 (omega arith), and-false))
    (λ q. rw q (rw and-false)) h) h

module _ {text : List ℕ} {at e : ℕ} (end : WordEnd text at e) where
  pub every-slice : every alphanumeric (slice at e text) ≡ true
  every-slice = rw (← end.read) (every-word (drop at text))

  some_word : is_name (slice at e text) ≡ true → at < e
  unfolding is_name
  some_word h = ⊎_elim (λ (q : eqb at e ≡ true). clash h (rw (← eqb-true at e q, slice_empty at text))) (λ (q : eqb at e ≡ false). let z = eqb-false at e q in omega (arith, end.begins)) (cases_Bool (eqb at e))

  no_name : is_name (slice at e text) ≡ false → name (drop at text) ≡ none
  unfolding name
  no_name h = rw (end.read, h)

  name_here : is_name (slice at e text) ≡ true → NameEnd text at e
  unfolding name is_name
  name_here h = record {
    begins = some_word h;
    ends = end.ends;
    read = rw (end.read, h, end.left);
  }

  pub name_chosen : (r : Bool) → r ≡ is_name (slice at e text) → MatchOption (then_some r e) (name (drop at text) ≡ none) (NameEnd text at)
  name_chosen true q = name_here (sym q)
  name_chosen false q = no_name (sym q)

-- LINES
-- the bytes stand at the beginning of the first line
abbrev in_fronts : List ℕ → List Line → List Line
in_fronts [] ls = ls
in_fronts (b ∷ w) ls = in_front b (in_fronts w ls)

in_fronts-more : (w : List ℕ) (b : ℕ) (ls : List Line) → in_fronts (w ++ (b ∷ [])) ls ≡ in_fronts w (in_front b ls)
in_fronts-more [] b ls = refl
in_fronts-more (c ∷ w) b ls = ap (in_front c) (in_fronts-more w b ls)

in_fronts-ended : (w s : List ℕ) (ls : List Line) → in_fronts w (ended s ∷ ls) ≡ ended (w ++ s) ∷ ls
in_fronts-ended [] s ls = refl
in_fronts-ended (b ∷ w) s ls = ap (in_front b) (in_fronts-ended w s ls)

in_fronts-unended : (w s : List ℕ) (ls : List Line) → in_fronts w (unended s ∷ ls) ≡ unended (w ++ s) ∷ ls
in_fronts-unended [] s ls = refl
in_fronts-unended (b ∷ w) s ls = ap (in_front b) (in_fronts-unended w s ls)

every_more : (p : ℕ → Bool) (w : List ℕ) (b : ℕ) → every p w ≡ true → p b ≡ true → every p (w ++ (b ∷ [])) ≡ true
every_more p [] b h k = rw k
every_more p (c ∷ w) b h k = and_both (and_left (p c) (every p w) h) (every_more p w b (and_right (p c) (every p w) h) k)

every-other : (p : ℕ → Bool) (w : List ℕ) (b : ℕ) (s : List ℕ) → p b ≡ false → every p (w ++ (b ∷ s)) ≡ false
every-other p [] b s h = rw h
every-other p (c ∷ w) b s h = rw (every-other p w b s h, and-false (p c))

-- row 2 refuses a first line with a byte that is not allowed
BadFirst : List Line → Type 0
BadFirst ms = (l : Line) × (ls : List Line) × (ms ≡ l ∷ ls) × (judge l ≡ bad 2)

bad-byte : (w : List ℕ) (b : ℕ) (ls : List Line) → allowed b ≡ false → BadFirst (in_fronts w (in_front b ls))
unfolding judge BadFirst
bad-byte w b [] h = (unended (w ++ (b ∷ [])), [], in_fronts-unended w (b ∷ []) [], refl)
bad-byte w b (ended s ∷ ls) h = (ended (w ++ (b ∷ s)), ls, in_fronts-ended w (b ∷ s) ls, rw (every-other allowed w b s h))
bad-byte w b (unended s ∷ ls) h = (unended (w ++ (b ∷ s)), ls, in_fronts-unended w (b ∷ s) ls, refl)

in_fronts-open : (b : ℕ) (w : List ℕ) → in_fronts (b ∷ w) [] ≡ unended (b ∷ w) ∷ []
in_fronts-open b [] = refl
in_fronts-open b (c ∷ w) = ap (in_front b) (in_fronts-open c w)

-- the bytes from at to i belong to the line, and are allowed
record LineSo (text : List ℕ) (at i : ℕ) : Type 0 where
  pub begins : at ≤ i
  pub ends : i ≤ length text
  pub good : every allowed (slice at i text) ≡ true
  pub read : lines (drop at text) ≡ in_fronts (slice at i text) (lines (drop i text))

line-start : {text : List ℕ} {at : ℕ} → at ≤ length text → LineSo text at at
line-start {text} {at} h = record { begins = omega arith; ends = h; good = rw (slice_empty at text); read = rw (slice_empty at text) }

module _ {text : List ℕ} {at i : ℕ} (so : LineSo text at i) where
  line-more : i < length text → (get_or text i 0 ≡ 10 → ⊥) → allowed (get_or text i 0) ≡ true → LineSo text at (i + 1)
  line-more h k a = record {
    begins = omega arith;
    ends = omega arith;
    good = rw (slice-more text i at so.begins h) (every_more allowed (slice at i text) (get_or text i 0) so.good a);
    read = so.read ∙ rw (next text i h, ne_eqb (get_or text i 0) 10 k, slice-more text i at so.begins h) (sym (in_fronts-more (slice at i text) (get_or text i 0) (lines (drop (i + 1) text))));
  }

  line-found : i < length text → get_or text i 0 ≡ 10 → LineEnd text at i
  line-found h k = record {
    begins = so.begins;
    ends = h;
    good = so.good;
    read = so.read ∙ rw (next text i h, eq-eqb (get_or text i 0) 10 k) (in_fronts-ended (slice at i text) [] (lines (drop (i + 1) text)) ∙ rw append-nil);
  }

  line-bad : i < length text → (get_or text i 0 ≡ 10 → ⊥) → allowed (get_or text i 0) ≡ false → BadLine text at
  unfolding BadFirst
  line-bad h k a =
      let r = bad-byte (slice at i text) (get_or text i 0) (lines (drop (i + 1) text)) a in
      (r.0, r.1, so.read ∙ rw (next text i h, ne_eqb (get_or text i 0) 10 k) r.2, r.3)

  line-unended : at < length text → length text ≤ i → BadLine text at
  unfolding judge
  line-unended h k =
      let z : i ≡ length text = omega (arith, so.ends) in
      let w = slice (suc at) i text in
      let b = get_or text at 0 in
      (unended (b ∷ w), [], so.read ∙ rw (nothing text i k, slice-cons at i text 0 (omega arith) so.ends) (in_fronts-open b w), refl)

-- the first byte that is not allowed ends the line, or row 2 refuses it
module _ (text : List ℕ) (at : ℕ) (h : at < length text) where
  line-until : (n : ℕ) → at + n ≤ length text → AllWithin (λ b. allowed b ≡ true) (drop at text) 0 n → LineSo text at (at + n)
  unfolding allowed alphanumeric
  line-until zero l k = rw add-zero (line-start (omega arith))
  line-until (suc n) l k =
      let a : allowed (get_or text (at + n) 0) ≡ true = ap allowed (sym (get_or-drop at text n 0)) ∙ k n 0 (omega arith) (omega arith) in
      let z : at + suc n ≡ at + n + 1 = omega arith in
      rw z (line-more (line-until n (omega arith) (λ j d p q. k j d p (omega arith))) (omega arith) (λ q. clash (rw q at a) refl) a)

  pub line-good : AllWithin (λ b. allowed b ≡ true) (drop at text) 0 (length (drop at text)) → BadLine text at
  line-good k =
      let e = length-drop at text in
      line-unended (line-until (length (drop at text)) (omega (arith, e)) k) h (omega (arith, e))

  pub line-stops : (n : ℕ) (r : Bool) → n < length (drop at text) → AllWithin (λ b. allowed b ≡ true) (drop at text) 0 n → allowed (get_or (drop at text) n 0) ≡ false → r ≡ eqb (get_or text (at + n) 0) 10 → MatchOption (then_some r (at + n)) (BadLine text at) (LineEnd text at)
  line-stops n true l k a q = let e = length-drop at text in line-found (line-until n (omega (arith, e)) k) (omega (arith, e)) (eqb-true (get_or text (at + n) 0) 10 (sym q))
  line-stops n false l k a q = let e = length-drop at text in line-bad (line-until n (omega (arith, e)) k) (omega (arith, e)) (eqb-false (get_or text (at + n) 0) 10 (sym q)) (ap allowed (sym (get_or-drop at text n 0)) ∙ a)
