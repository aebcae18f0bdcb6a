-- What the listing writes of a line is read back.
use mathlib.Core.Path.{◌≡◌, refl, sym, ap, ◌∙◌, subst}
use mathlib.Core.Logic.{⊎_elim}
use mathlib.Core.Bool.{Bool, true, false, or-true}
use mathlib.Core.List.{List, [], ◌∷◌, ◌++◌, map, append_assoc, append-nil}
use mathlib.Core.Option.{some}
use Prim.Native.Nat.{ℕ, suc, ◌≤◌, ◌<◌}
use Prim.Native.String.{String}
use native.Mathlib.Omega.{arith}
use lib.Dec.{eqb, ltb}
use lib.ListN.{length, get_or}
use borrow.Author.Tests.{lt-ltb, eqb-true, eq-eqb, ne_eqb}
use Rattle.std.proofs.lemmas.Bool.{cases_Bool}
use Rattle.semantics.specs.Runs.{step, meet}
use Rattle.model.specs.Places.{Objects}
use Rattle.grammar.specs.Bytes.{bytes, letter, digit, alphanumeric, allowed, every, ended, lines, Word, is_name}
use Rattle.grammar.specs.Forms.{print_rest, print_word, all}
use Rattle.grammar.proofs.Tests.{clash, and_left, and_right, and_both}
use Rattle.grammar.proofs.Printing.{Stops, word_back, after_word-back, name-every, Back, rest_back, rest-long}
use Rattle.listing_bytes.specs.Numerals.{decimal, Numeral}
use Rattle.listing_bytes.specs.Forms.{items, form}
use Rattle.listing_bytes.proofs.Decimal.{decimal-numeral}
use Rattle.handin_lines.specs.Lines.{digits, after_digits, is_numeral, number, below, letters, nothing, place, states_rest, atomic_rest, step_rest, meet_rest, line, said_by}
use Rattle.handin_lines.proofs.Laws.{digit-yes}

-- NUMERALS
digit-other : (b : ℕ) → alphanumeric b ≡ false → digit b ≡ false
unfolding alphanumeric
digit-other b h = ⊎_elim (λ (q : digit b ≡ true). clash (rw q (or-true (letter b))) h) (λ q. q) (cases_Bool (digit b))

alphanumeric-digit : (b : ℕ) → digit b ≡ true → alphanumeric b ≡ true
unfolding alphanumeric
alphanumeric-digit b h = rw h (or-true (letter b))

digits-back : (w s : List ℕ) → every digit w ≡ true → Stops s → digits (w ++ s) ≡ w
digits-back [] [] e h = refl
digits-back [] (b ∷ s) e h = rw (digit-other b h)
digits-back (b ∷ w) s e h = rw (and_left (digit b) (every digit w) e, digits-back w s (and_right (digit b) (every digit w) e) h)

after_digits-back : (w s : List ℕ) → every digit w ≡ true → Stops s → after_digits (w ++ s) ≡ s
after_digits-back [] [] e h = refl
after_digits-back [] (b ∷ s) e h = rw (digit-other b h)
after_digits-back (b ∷ w) s e h = rw (and_left (digit b) (every digit w) e) (after_digits-back w s (and_right (digit b) (every digit w) e) h)

every-digit : (w : List ℕ) → ((k : ℕ) → k < length w → (48 ≤ get_or w k 0) × (get_or w k 0 ≤ 57)) → every digit w ≡ true
every-digit [] h = refl
every-digit (b ∷ w) h =
    let d = h 0 (omega arith) in
    and_both (digit-yes b d.0 d.1) (every-digit w (λ k l. h (suc k) (omega arith)))

decimal-digits : (n : ℕ) → every digit (decimal n) ≡ true
decimal-digits n = every-digit (decimal n) (decimal-numeral n).digits

is-numeral : {n : ℕ} (w : List ℕ) → Numeral n w → is_numeral w ≡ true
unfolding is_numeral
is-numeral [] N = absurd (omega (arith, N.some))
is-numeral (b ∷ w) N = ⊎_elim
    (λ (q : eqb b 48 ≡ true). rw (q, eq-eqb (length w) 0 (omega (arith, N.leading (eqb-true b 48 q)))))
    (λ (q : eqb b 48 ≡ false). rw q) (cases_Bool (eqb b 48))

number-back : (n : ℕ) (s : List ℕ) → Stops s → number (decimal n ++ s) ≡ some (n, s)
unfolding number
number-back n s h =
    let N = decimal-numeral n in
    rw (digits-back (decimal n) s (decimal-digits n) h, after_digits-back (decimal n) s (decimal-digits n) h, is-numeral (decimal n) N, N.value)

below-back : (n : ℕ) → Back (λ k. ltb k n) (below n) decimal
unfolding below
below-back n k e s h = rw (number-back k s h, e)

-- WORDS
letters-back : Back is_name letters print_word
unfolding letters is_name
letters-back [] e s h = clash e refl
letters-back (b ∷ w) e s h =
    rw (word_back (b ∷ w) s (name-every (b ∷ w) e) h, after_word-back (b ∷ w) s (name-every (b ∷ w) e) h, ne_eqb (suc (length w)) 0 (λ z. absurd (omega arith)))

-- ITEMS
items-words : (ws : List Word) → items ws ++ 41 ∷ [] ≡ print_rest print_word ws
items-words [] = refl
items-words (w ∷ ws) = ap (λ (s : List ℕ). 32 ∷ s) (append_assoc w (items ws) (41 ∷ []) ∙ rw (items-words ws))

items-numbers : (ns : List ℕ) → items (map decimal ns) ++ 41 ∷ [] ≡ print_rest decimal ns
items-numbers [] = refl
items-numbers (n ∷ ns) = ap (λ (s : List ℕ). 32 ∷ s) (append_assoc (decimal n) (items (map decimal ns)) (41 ∷ []) ∙ rw (items-numbers ns))

numbers-stop : (ns : List ℕ) → Stops (print_rest decimal ns)
unfolding alphanumeric
numbers-stop [] = refl
numbers-stop (n ∷ ns) = refl

-- A LINE without its byte 10
abbrev pub front : String → List (List ℕ) → List ℕ
front word ws = bytes "(" ++ bytes word ++ items ws ++ bytes ")"

pub states-back : (n : ℕ) → said_by (front "states" (decimal n ∷ [])) ≡ some nothing
unfolding said_by line states_rest alphanumeric
states-back n = rw (append-nil (decimal n), number-back n (41 ∷ []) refl)

pub atomic-back : (ws : List Word) → all is_name ws ≡ true → said_by (front "atomic" ws) ≡ some nothing
unfolding said_by line atomic_rest
atomic-back ws e =
    let n = length (print_rest print_word ws) in
    rw (items-words ws, rw append-nil at (rest_back is_name letters print_word letters-back n ws e (rest-long is_name letters print_word letters-back ws) []))

pub step_back : (ℓ o : ℕ) → ℓ < 8388608 → o < 255 → said_by (front "step" (decimal ℓ ∷ decimal o ∷ [])) ≡ some (place (step ℓ o))
unfolding said_by line step_rest alphanumeric
step_back ℓ o h k =
    rw (
      append-nil (decimal o),
      append_assoc (decimal ℓ) (32 ∷ decimal o) (41 ∷ []),
      below-back 8388608 ℓ (lt-ltb ℓ 8388608 h) (32 ∷ (decimal o ++ 41 ∷ [])) refl,
      below-back 255 o (lt-ltb o 255 k) (41 ∷ []) refl,
    )

small-objects : (os : List ℕ) → Objects os → all (λ o. ltb o 255) os ≡ true
small-objects [] h = refl
small-objects (o ∷ os) h = and_both (lt-ltb o 255 h.0) (small-objects os h.1)

pub meet-back : (i : ℕ) (os : List ℕ) → i < 128 → length os ≤ 3 → Objects os → said_by (front "meet" (decimal i ∷ map decimal os)) ≡ some (place (meet i os))
unfolding said_by line meet_rest
meet-back i os h l k =
    rw (
      append_assoc (decimal i) (items (map decimal os)) (41 ∷ []),
      items-numbers os,
      below-back 128 i (lt-ltb i 128 h) (print_rest decimal os) (numbers-stop os),
      rw append-nil at (rest_back (λ o. ltb o 255) (below 255) decimal (below-back 255) 3 os (small-objects os k) l []),
    )

-- LINES: no byte 10 stands in a line of brackets, spaces, letters and digits
pub lines-line : (s t : List ℕ) → every allowed s ≡ true → lines (s ++ 10 ∷ t) ≡ ended s ∷ lines t
unfolding allowed alphanumeric
lines-line [] t e = refl
lines-line (b ∷ s) t e =
    let other : b ≡ 10 → ⊥ = λ z. clash (and_left (allowed b) (every allowed s) e) (subst (λ (c : ℕ). allowed c ≡ false) (sym z) refl) in
    rw (ne_eqb b 10 other, lines-line s t (and_right (allowed b) (every allowed s) e))

every_append : (p : ℕ → Bool) (s t : List ℕ) → every p s ≡ true → every p t ≡ true → every p (s ++ t) ≡ true
every_append p [] t e f = f
every_append p (b ∷ s) t e f = and_both (and_left (p b) (every p s) e) (every_append p s t (and_right (p b) (every p s) e) f)

allowed-word : (b : ℕ) → alphanumeric b ≡ true → allowed b ≡ true
unfolding allowed
allowed-word b h = rw h

allowed-letters : (w : List ℕ) → every alphanumeric w ≡ true → every allowed w ≡ true
allowed-letters [] e = refl
allowed-letters (b ∷ w) e = and_both (allowed-word b (and_left (alphanumeric b) (every alphanumeric w) e)) (allowed-letters w (and_right (alphanumeric b) (every alphanumeric w) e))

allowed-items : (ws : List Word) → all (every alphanumeric) ws ≡ true → every allowed (items ws) ≡ true
unfolding allowed alphanumeric
allowed-items [] e = refl
allowed-items (w ∷ ws) e =
    every_append allowed w (items ws) (allowed-letters w (and_left (every alphanumeric w) (all (every alphanumeric) ws) e)) (allowed-items ws (and_right (every alphanumeric w) (all (every alphanumeric) ws) e))

pub form-line : (word : String) (ws : List Word) (t : List ℕ) → every allowed (bytes "(" ++ bytes word) ≡ true → all (every alphanumeric) ws ≡ true
    → lines (form word ws ++ t) ≡ ended (front word ws) ∷ lines t
unfolding allowed alphanumeric
form-line word ws t e f =
    let s = bytes "(" ++ bytes word ++ items ws in
    ap lines (append_assoc s (41 ∷ 10 ∷ []) t ∙ sym (append_assoc s (41 ∷ []) (10 ∷ t)))
    ∙ lines-line (s ++ 41 ∷ []) t (every_append allowed s (41 ∷ []) (every_append allowed (bytes "(" ++ bytes word) (items ws) e (allowed-items ws f)) refl)

decimal-letters : (n : ℕ) → every alphanumeric (decimal n) ≡ true
decimal-letters n = go (decimal n) (decimal-digits n)
  where
    go : (w : List ℕ) → every digit w ≡ true → every alphanumeric w ≡ true
    go [] e = refl
    go (b ∷ w) e = and_both (alphanumeric-digit b (and_left (digit b) (every digit w) e)) (go w (and_right (digit b) (every digit w) e))

pub decimals-letters : (ns : List ℕ) → all (every alphanumeric) (map decimal ns) ≡ true
decimals-letters [] = refl
decimals-letters (n ∷ ns) = and_both (decimal-letters n) (decimals-letters ns)

pub names-letters : (ws : List Word) → all is_name ws ≡ true → all (every alphanumeric) ws ≡ true
names-letters [] e = refl
names-letters (w ∷ ws) e = and_both (name-every w (and_left (is_name w) (all is_name ws) e)) (names-letters ws (and_right (is_name w) (all is_name ws) e))
