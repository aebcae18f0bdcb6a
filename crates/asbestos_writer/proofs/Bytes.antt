-- THE BYTES OF EACH LINE, part by part, by computed tests over all levels; and how many they are.
use mathlib.Core.Path.{◌≡◌, refl, sym, ◌∙◌}
use mathlib.Core.Bool.{Bool, true, false, cond}
use mathlib.Core.List.{List, [], ◌∷◌, ◌++◌}
use Prim.Native.Nat.{ℕ, zero, suc, ◌+◌, ◌*◌, ◌≤◌, ◌<◌}
use native.Mathlib.Numerals.{add-one}
use native.Mathlib.Omega.{arith}
use lib.Dec.{eqb}
use lib.ListN.{length, length-append}
use borrow.Author.Tests.{eq-eqb, ne_eqb}
use Rattle.semantics.proofs.Tools.{below, below-use}
use Rattle.grammar.specs.Bytes.{bytes, same}
use Rattle.grammar.specs.Forms.{Form}
use Rattle.grammar.proofs.Words.{same-eq}
use Rattle.asbestos.specs.Messages.{levels, Process, Proper, resulting_level}
use Rattle.asbestos.specs.Desk.{each}
use Rattle.asbestos.proofs.Codes.{proc, tried, tried-use}
use Rattle.asbestos_forms.specs.Forms.{names, label, born_form, marking_form, raising_form, entry_forms, row_forms, asked_form, printed}
use Rattle.asbestos_forms.proofs.Printed.{printed-append}
use Rattle.asbestos_forms.proofs.Sizes.{entry-short, length-printed}
use Rattle.listing_bytes.specs.Writing.{Writes}
use Rattle.listing_bytes.proofs.Writing.{after}
use Rattle.asbestos_writer.specs.Parts.{levelled, receiving, marked, taken, passed, changed, exactly}

-- A KIND
abbrev pub born-bytes : Process → List ℕ
born-bytes k = levelled (bytes "(new (S") k.send ++ receiving (suc k.receive) ++ marked k.mark

abbrev born-right : ℕ → ℕ → ℕ → Bool → Bool
born-right s r b m = same (printed (born_form (proc s r m) ∷ [])) (born-bytes (proc s r m))

born-tried : tried born-right ≡ true
unfolding born_form label names
born-tried = refl

pub born-printed : (k : Process) → Proper k → printed (born_form k ∷ []) ≡ born-bytes k
born-printed k h = same-eq _ _ (tried-use born-right born-tried k.send k.receive 0 h.0 h.1 (omega arith) k.mark)

-- A TABLE ENTRY
abbrev pub marking-bytes : ℕ → ℕ → List ℕ
marking-bytes a b = changed (bytes "(next x (M S") a b (resulting_level a b) (bytes " y) (M y))\n")

abbrev pub raising-bytes : ℕ → ℕ → List ℕ
raising-bytes a b = changed (bytes "(next x (S") a b (resulting_level a b) (bytes " y) (not (M y)))\n")

abbrev pub entry-bytes : ℕ → ℕ → List ℕ
entry-bytes a b = cond (eqb (resulting_level a b) a) (marking-bytes a b) (marking-bytes a b ++ raising-bytes a b)

entry-tried : below levels (λ (a : ℕ). below levels (λ (b : ℕ). same (printed (entry_forms a b)) (entry-bytes a b))) ≡ true
unfolding marking_form raising_form resulting_level label names
entry-tried = refl

pub entry-printed : (a b : ℕ) → a < levels → b < levels → printed (entry_forms a b) ≡ entry-bytes a b
entry-printed a b la lb = same-eq _ _ (below-use levels (λ (b : ℕ). same (printed (entry_forms a b)) (entry-bytes a b))
    (below-use levels (λ (a : ℕ). below levels (λ (b : ℕ). same (printed (entry_forms a b)) (entry-bytes a b))) entry-tried a la) b lb)

-- THE QUESTION
asked-tried : below levels (λ (q : ℕ). same (printed (asked_form q ∷ [])) (levelled (bytes "(ask ((M x) (R") q ++ exactly q)) ≡ true
unfolding asked_form label names
asked-tried = refl

pub asked-printed : (q : ℕ) → q < levels → printed (asked_form q ∷ []) ≡ levelled (bytes "(ask ((M x) (R") q ++ exactly q
asked-printed q lq = same-eq _ _ (below-use levels (λ (q : ℕ). same (printed (asked_form q ∷ [])) (levelled (bytes "(ask ((M x) (R") q ++ exactly q)) asked-tried q lq)

-- HOW MANY THEY ARE
pub receiving-long : (n : ℕ) → length (receiving n) ≡ 3 * n
receiving-long zero = refl
receiving-long (suc n) = omega (arith, receiving-long n, length-append (receiving n) (levelled (bytes " R") n))

pub taken-short : (a c : ℕ) → length (taken a c) ≤ 5
taken-short a c = by (eqb c a)
  where
    by : (t : Bool) → length (cond t (bytes ") (") (levelled (bytes ") (S") a)) ≤ 5
    by true = omega arith
    by false = omega arith

pub row-short : (a : ℕ) → a < levels → (n : ℕ) → n ≤ levels → length (printed (each n (λ (b : ℕ). entry_forms a b))) ≤ 100 * n
row-short a la zero h = omega arith
row-short a la (suc n) h = omega (arith, row-short a la n (omega arith), entry-short a n la (omega arith), length-printed (each n (λ (b : ℕ). entry_forms a b)) (entry_forms a n))

pub table-short : (port : ℕ) → port < levels → (n : ℕ) → n ≤ levels → length (printed (each n (λ (a : ℕ). row_forms port a))) ≤ 500 * n
table-short port low zero h = omega arith
table-short port low (suc n) h = omega (arith, table-short port low n (omega arith), row-short n (omega arith) (suc port) (omega arith), length-printed (each n (λ (a : ℕ). row_forms port a)) (row_forms port n))

-- ONE MORE of the lists of lines is written
pub written-each : {d : List ℕ} {p : ℕ} (n : ℕ) (g : ℕ → List Form) {q : ℕ} {e : List ℕ} {r : ℕ} {f : List ℕ}
    → Writes d p (printed (each n g)) q e → Writes e q (printed (g n)) r f → Writes d p (printed (each (n + 1) g)) r f
written-each n g first second = rw (add-one n, printed-append (each n g) (g n)) (after first second)

-- A TABLE ENTRY is written by one line or two, c being the resulting level
chosen : (t u : Bool) (x y : List ℕ) → t ≡ u → cond t x y ≡ cond u x y
chosen t u x y e = rw e

module _ (a b c : ℕ) (la : a < levels) (lb : b < levels) (ec : c ≡ resulting_level a b) {d : List ℕ} {p q : ℕ} {e : List ℕ} (first : Writes d p (changed (bytes "(next x (M S") a b c (bytes " y) (M y))\n")) q e) where
  choice : (u : Bool) → eqb (resulting_level a b) a ≡ u → printed (entry_forms a b) ≡ cond u (marking-bytes a b) (marking-bytes a b ++ raising-bytes a b)
  choice u h = entry-printed a b la lb ∙ chosen (eqb (resulting_level a b) a) u (marking-bytes a b) (marking-bytes a b ++ raising-bytes a b) h

  pub entry-stays : c ≡ a → Writes d p (printed (entry_forms a b)) q e
  entry-stays h = rw (choice true (eq-eqb (resulting_level a b) a (sym ec ∙ h))) (rw ec at first)

  pub entry-raised : (c ≡ a → ⊥) → {r : ℕ} {f : List ℕ} → Writes e q (changed (bytes "(next x (S") a b c (bytes " y) (not (M y)))\n")) r f → Writes d p (printed (entry_forms a b)) r f
  entry-raised h second = rw (choice false (ne_eqb (resulting_level a b) a (λ z. h (ec ∙ z)))) (rw ec at (after first second))

pub changed-short : (first : List ℕ) (a b c : ℕ) (last : List ℕ) → length (changed first a b c last) ≤ length first + 25 + length last
changed-short first a b c last = omega (
  arith,
  length-append (levelled first c ++ taken a c ++ passed a b) last,
  length-append (levelled first c ++ taken a c) (passed a b),
  length-append (levelled first c) (taken a c),
  length-append first ((48 + c) ∷ []),
  taken-short a c,
)
