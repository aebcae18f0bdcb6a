-- Laws of the parts of a line: bytes, words, numerals and the end.
use mathlib.Core.Path.{◌≡◌, refl, sym, ap, ◌∙◌}
use mathlib.Core.Logic.{⊎_elim}
use mathlib.Core.Bool.{Bool, true, false, cond, not, or-true, or-false}
use mathlib.Core.List.{List, [], ◌∷◌}
use mathlib.Core.Option.{Option, none, some, none-ne-some}
use Rattle.std.proofs.lemmas.Bool.{cases_Bool}
use Rattle.std.specs.Prelude as std
use Rattle.std.specs.Prelude.{Some, None}
use Rattle.std.specs.Cmp.Lexicographic.{pointwise}
use Rattle.std.specs.Option.{MatchOption}
use Rattle.std.specs.Bool.{then_some}
use denote.Ref.{Bor}
use Prim.Native.Nat.{ℕ, zero, suc, ◌+◌, ◌-◌, ◌≤◌, ◌<◌}
use native.Mathlib.Omega.{arith}
use lib.Dec.{eqb, ltb}
use lib.ListN.{length, take, drop, get_or, length-drop}
use lib.Seq.{length-slice, take-length}
use borrow.Author.Tests.{le-leb, le-ltb, ltb-true, ltb-false, eqb-true, eq-eqb, ne_eqb}
use Rattle.grammar.specs.Bytes.{bytes, digit, Word, same}
use Rattle.grammar.specs.Shapes.{Read, ◌>>=◌, after, word, rest, whole}
use Rattle.grammar.proofs.Tests.{clash, and_left, and_right}
use Rattle.grammar.proofs.Reading.{onto, rest-closes, rest-ends, rest-fails, rest-item}
use Rattle.listing_bytes.specs.Numerals.{value_after}
use Rattle.text_scan.specs.Found.{WordEnd}
use Rattle.handin_lines.specs.Lines.{digits, after_digits, is_numeral, number, below, letters, Said, nothing, states_rest, atomic_rest}
use Rattle.handin_lines.specs.Found.{cut, DigitsEnd, NumberAt, NumberEnd, BelowEnd, object, last}
use Rattle.handin_lines.specs.declared.Number.{Number}

-- DIGITS
module _ (b : ℕ) where
  pub digit-yes : 48 ≤ b → b ≤ 57 → digit b ≡ true
  digit-yes h k = rw (le-leb 48 b h, le-leb b 57 k)

-- what is left from a place on
pub left-from : (line : List ℕ) (i : ℕ) → take (length line - i) (drop i line) ≡ drop i line
left-from line i = rw (← length-drop i line) (take-length (drop i line))

-- BYTES that are next
next-found : (w s : List ℕ) → pointwise eqb (take (length w) s) w ≡ true → after w s ≡ some (drop (length w) s)
next-found [] s h = refl
next-found (b ∷ w) [] h = clash h refl
next-found (b ∷ w) (c ∷ s) h =
    let same = eqb-true c b (and_left (eqb c b) (pointwise eqb (take (length w) s) w) h) in
    rw (eq-eqb b c (sym same)) (next-found w s (and_right (eqb c b) (pointwise eqb (take (length w) s) w) h))

next-missing : (w s : List ℕ) → pointwise eqb (take (length w) s) w ≡ false → after w s ≡ none
next-missing [] s h = clash refl h
next-missing (b ∷ w) [] h = refl
next-missing (b ∷ w) (c ∷ s) h = ⊎_elim
    (λ (q : eqb b c ≡ true). rw q (next-missing w s (rw (eq-eqb c b (sym (eqb-true b c q))) at h)))
    (λ (q : eqb b c ≡ false). rw q) (cases_Bool (eqb b c))

pub stripped : (w s : List ℕ) (r : std.Option (Bor (List ℕ)))
    → MatchOption r (pointwise eqb (take (length w) s) w ≡ false) (λ x. (pointwise eqb (take (length w) s) w ≡ true) × (x.now ≡ drop (length w) s) × (length x.now + length w ≡ length s))
    → MatchOption r (after w s ≡ none) (λ x. after w s ≡ some x.now)
stripped w s None h = next-missing w s h
stripped w s (Some x) h = next-found w s h.0 ∙ ap some (sym h.1)

-- THE END OF A LINE

pub whole-last : {A : Type 0} (x : A) (o : Option (List ℕ)) → whole (o >>= λ t. some (x, t)) ≡ cond (last o) (some x) none
whole-last x none = refl
whole-last x (some []) = refl
whole-last x (some (b ∷ s)) = refl

-- DIGITS: those before i stand for the number sum
pub record DigitsSo (line : List ℕ) (v i : ℕ) : Type 0 where
  pub ends : i ≤ length line
  pub count : length (digits line) ≡ i + length (digits (drop i line))
  pub left : after_digits line ≡ after_digits (drop i line)
  pub sum : ℕ
  pub value : v ≡ cut sum
  pub read : value_after 0 (digits line) ≡ value_after sum (digits (drop i line))

-- NUMERALS
no_number : (s : List ℕ) → is_numeral (digits s) ≡ false → number s ≡ none
unfolding number
no_number s h = rw h

digits-none : (s : List ℕ) → length (digits s) ≡ 0 → is_numeral (digits s) ≡ false
unfolding is_numeral
digits-none s h = go (digits s) h
  where
    go : (w : List ℕ) → length w ≡ 0 → is_numeral w ≡ false
    go [] z = refl
    go (b ∷ w) z = absurd (omega arith)

-- one digit is a numeral; more are one unless the first is 0
digits-one : (s : List ℕ) → length (digits s) ≡ 1 → is_numeral (digits s) ≡ true
unfolding is_numeral
digits-one s h = go (digits s) h
  where
    go : (w : List ℕ) → length w ≡ 1 → is_numeral w ≡ true
    go [] z = absurd (omega arith)
    go (b ∷ []) z = or-true (not (eqb b 48))
    go (b ∷ c ∷ w) z = absurd (omega arith)

digits-first : (s : List ℕ) → 0 < length (digits s) → get_or (digits s) 0 0 ≡ get_or s 0 0
digits-first [] h = absurd (omega arith)
digits-first (b ∷ s) h = ⊎_elim (λ (q : digit b ≡ true). rw q) (λ (q : digit b ≡ false). absurd (let k = rw q at h in omega arith)) (cases_Bool (digit b))

digits-many : (w : List ℕ) → 1 < length w → is_numeral w ≡ not (eqb (get_or w 0 0) 48)
unfolding is_numeral
digits-many [] h = absurd (omega arith)
digits-many (b ∷ []) h = absurd (omega arith)
digits-many (b ∷ c ∷ w) h = rw (ne_eqb (suc (length w)) 0 (λ z. absurd (omega arith))) (or-false (not (eqb b 48)))

module _ {line : List ℕ} {r : Number} (end : DigitsEnd line r) where
  pub number-empty : length line - length r.rest.now ≡ 0 → number line ≡ none
  number-empty h = no_number line (digits-none line (omega (arith, end.count)))

  numbered : is_numeral (digits line) ≡ true → NumberAt line r
  unfolding number
  numbered k = record { number = value_after 0 (digits line); value = end.value; read = rw (k, end.left) }

  pub number-single : length line - length r.rest.now ≡ 1 → NumberAt line r
  number-single h = numbered (digits-one line (omega (arith, end.count)))

  module _ (h : length line - length r.rest.now ≡ 0 → ⊥) (k : length line - length r.rest.now ≡ 1 → ⊥) where
    many : is_numeral (digits line) ≡ not (eqb (get_or line 0 0) 48)
    many =
        let c = end.count in
        digits-many (digits line) (omega arith) ∙ rw (digits-first line (omega arith))

    pub number-zero : get_or line 0 0 ≡ 48 → number line ≡ none
    number-zero z = no_number line (many ∙ rw (eq-eqb (get_or line 0 0) 48 z))

    pub number-found : (get_or line 0 0 ≡ 48 → ⊥) → NumberAt line r
    number-found z = numbered (many ∙ rw (ne_eqb (get_or line 0 0) 48 z))

-- the number is kept if it is below n
pub below-said : {P : Number → Bool → Type 0} (line : List ℕ) (n : ℕ) (o r : std.Option Number) → n ≤ 8388608 → NumberEnd line o → MatchOption o (r ≡ None) (λ x. (b : Bool) × P x b × (r ≡ then_some b x))
    → ((x : Number) (b : Bool) → P x b → b ≡ ltb x.value n) → BelowEnd n (below n line) r
unfolding below
below-said line n None r h end m k = rw (m, end) refl
below-said line n (Some x) r h end (b, p, e) k = rw (e, k x b p) (⊎_elim
    (λ (q : ltb x.value n ≡ true).
    let z : end.number ≡ x.value = omega (arith, end.value, ltb-true x.value n q) in
    rw q (record { small = ltb-true x.value n q; found = rw (end.read, z, q) }))
    (λ (q : ltb x.value n ≡ false). rw q (rw (end.read, le-ltb end.number n (omega (arith, end.value, ltb-false x.value n q)))))
    (cases_Bool (ltb x.value n)))

-- OBJECTS
module _ (line : List ℕ) where
  pub object-found : (r : std.Option Number) → {t : List ℕ} → after (bytes " ") line ≡ some t → BelowEnd 255 (below 255 t) r → BelowEnd 255 (object line) r
  object-found None e b = rw e b
  object-found (Some r) e b = record { small = b.small; found = rw e b.found }

  pub object-missing : after (bytes " ") line ≡ none → object line ≡ none
  object-missing e = rw e

-- LINES THAT SAY NOTHING
pub states-said : {P : Number → Type 0} (line : List ℕ) (o : std.Option Number) (r : Bool) → NumberEnd line o → MatchOption o (r ≡ false) P
    → ((n : Number) → P n → r ≡ last (after (bytes ")") n.rest.now)) → whole (states_rest line) ≡ cond r (some nothing) none
unfolding states_rest
states-said line None r end m k = rw (m, end)
states-said line (Some n) r end m k = rw (end.read, k n m) (whole-last nothing (after (bytes ")") n.rest.now))

-- what stands after a space is no end
pub space-open : (s : List ℕ) {t : List ℕ} → after (bytes " ") s ≡ some t → after (bytes ")") s ≡ none
space-open [] e = absurd (none-ne-some _ e)
space-open (b ∷ s) e = ⊎_elim (λ (q : eqb 32 b ≡ true). rw (← eqb-true 32 b q)) (λ (q : eqb 32 b ≡ false). absurd (none-ne-some _ (rw q at e))) (cases_Bool (eqb 32 b))

-- words are read and passed over
abbrev pub silent : Read (List Word) → Option Said
silent r = whole (r >>= λ p. some (nothing, p.1))

silent-onto : (ws : List Word) (r : Read (List Word)) → silent (onto ws r) ≡ silent r
silent-onto ws none = refl
silent-onto ws (some p) = refl

letters-stop : (m : ℕ) (s : List ℕ) → after (bytes " ") s ≡ none → silent (rest letters m s) ≡ cond (last (after (bytes ")") s)) (some nothing) none
letters-stop m s e = go (after (bytes ")") s) refl
  where
    go : (o : Option (List ℕ)) → after (bytes ")") s ≡ o → silent (rest letters m s) ≡ cond (last o) (some nothing) none
    go none p = rw (rest-ends letters m s p e)
    go (some t) p = rw (rest-closes letters m s p) (whole-last nothing (some t))

-- the words before those of i are passed over
pub record WordsSo (line i : List ℕ) : Type 0 where
  pub read : (m : ℕ) × (length i ≤ m) × (whole (atomic_rest line) ≡ silent (rest letters m i))

pub words-start : (line : List ℕ) → WordsSo line line
unfolding atomic_rest
words-start line = record { read = (length line, omega arith, refl) }

module _ {line i : List ℕ} (so : WordsSo line i) where
  pub words-end : {r : Bool} → after (bytes " ") i ≡ none → r ≡ last (after (bytes ")") i) → whole (atomic_rest line) ≡ cond r (some nothing) none
  words-end e z = so.read.2 ∙ letters-stop so.read.0 i e ∙ rw z

  module _ (space : after (bytes " ") i ≡ some (drop 1 i)) {e : ℕ} (end : WordEnd i 1 e) where
    word-length : length (word (drop 1 i)) ≡ e - 1
    word-length = ap length end.read ∙ length-slice 1 e i end.ends

    pub words-none : e ≡ 1 → whole (atomic_rest line) ≡ none
    unfolding letters
    words-none z = so.read.2 ∙ rw (rest-fails letters so.read.0 i (space-open i space) space (rw (eq-eqb (length (word (drop 1 i))) 0 (word-length ∙ omega arith))))

    pub words_more : (e ≡ 1 → ⊥) → WordsSo line (drop e i)
    unfolding letters
    words_more z = record { read = go so.read }
      where
        item : letters (drop 1 i) ≡ some (word (drop 1 i), drop e i)
        item = rw (ne_eqb (length (word (drop 1 i))) 0 (λ y. z (omega (arith, word-length, end.begins))), end.left)

        go : ((m : ℕ) × (length i ≤ m) × (whole (atomic_rest line) ≡ silent (rest letters m i))) → (m : ℕ) × (length (drop e i) ≤ m) × (whole (atomic_rest line) ≡ silent (rest letters m (drop e i)))
        go (zero, g, r) = absurd (omega (arith, end.begins, end.ends))
        go (suc m, g, r) = (m, omega (arith, end.begins, length-drop e i), r ∙ rw (rest-item letters m i (space-open i space) space item) (silent-onto (word (drop 1 i) ∷ []) (rest letters m (drop e i))))
