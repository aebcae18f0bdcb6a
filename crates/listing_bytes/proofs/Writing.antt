-- Writing part after part is writing the parts joined.
use mathlib.Core.Path.{◌≡◌, sym, ap, ◌∙◌}
use mathlib.Core.List.{List, [], ◌∷◌, ◌++◌, append_assoc, append-nil}
use Prim.Native.Nat.{ℕ, zero, suc, ◌+◌, ◌-◌, ◌≤◌}
use native.Mathlib.Nat.{add-zero, zero-add, add_assoc, sub-zero, suc-sub-suc, le_of_suc-le-suc}
use native.Mathlib.Omega.{arith}
use lib.ListN.{length, take, drop, take-append-drop, length-append, length-drop}
use lib.Seq.{take_at, drop_at, length-take-le, take-nil, drop-drop, slice}
use Rattle.listing_bytes.specs.Forms.{items}
use Rattle.listing_bytes.specs.Writing.{written, Writes, WritesLine}

-- the part before the next place, and its length
front_length : (d : List ℕ) (p : ℕ) (s : List ℕ) → p + length s ≤ length d → length (take p d ++ s) ≡ p + length s
front_length d p s room = length-append (take p d) s ∙ ap (λ (n : ℕ). n + length s) (length-take-le p d (omega arith))

length-written : (d : List ℕ) (p : ℕ) (s : List ℕ) → p + length s ≤ length d → length (written d p s) ≡ length d
length-written d p s room = length-append (take p d ++ s) (drop (p + length s) d) ∙ omega (arith, front_length d p s room, length-drop (p + length s) d)

-- no byte, and one byte
pub writes-none : (d : List ℕ) (p : ℕ) → p ≤ length d → Writes d p [] p d
writes-none d p h = record { room = omega arith; next = omega arith; bytes = sym (rw (add-zero, append-nil) (take-append-drop p d)) }

module _ {d : List ℕ} {p : ℕ} {s : List ℕ} {q : ℕ} {e : List ℕ} (first : Writes d p s q e) where
  -- a writer keeps the length
  pub kept : length e ≡ length d
  kept = ap length first.bytes ∙ length-written d p s first.room

  -- what stands before the next place, and after it
  before : take q e ≡ take p d ++ s
  before = rw first.bytes (take_at (take p d ++ s) (drop (p + length s) d) q (front_length d p s first.room ∙ sym first.next))

  behind : drop q e ≡ drop (p + length s) d
  behind = rw first.bytes (drop_at (take p d ++ s) (drop (p + length s) d) q (front_length d p s first.room ∙ sym first.next))

  -- one part after another
  pub after : {t : List ℕ} {r : ℕ} {f : List ℕ} → Writes e q t r f → Writes d p (s ++ t) r f
  after {t} {r} {f} second =
      let n : length (s ++ t) ≡ length s + length t = length-append s t in
      let rest : drop (q + length t) e ≡ drop (p + length (s ++ t)) d =
      sym (drop-drop (length t) q e) ∙ ap (drop (length t)) behind ∙ drop-drop (length t) (p + length s) d ∙ rw (n, ← add_assoc p (length s) (length t)) in
      record {
        room = omega (arith, second.room, first.next, kept);
        next = omega (arith, second.next, first.next);
        bytes = second.bytes ∙ rw (before, rest, append_assoc (take p d) s t);
      }

-- the part of a text from a to e
pub slice-part : (a e : ℕ) (l : List ℕ) → a ≤ e → slice a e l ≡ take (e - a) (drop a l)
slice-part zero e l h = rw (sub-zero e)
slice-part (suc a) zero l h = absurd (omega arith)
slice-part (suc a) (suc e) [] h = sym (take-nil (suc e - suc a))
slice-part (suc a) (suc e) (b ∷ l) h = rw (suc-sub-suc e a) (slice-part a e l (le_of_suc-le-suc h))

-- one item more
pub items_more : (ws : List (List ℕ)) (w : List ℕ) → items (ws ++ w ∷ []) ≡ items ws ++ 32 ∷ w
items_more [] w = append-nil (32 ∷ w)
items_more (v ∷ ws) w = rw (items_more ws w, append_assoc)

pub item : {d : List ℕ} {p : ℕ} (s : List ℕ) (ws : List (List ℕ)) {q : ℕ} {e w : List ℕ} {r : ℕ} {f : List ℕ}
    → Writes d p (s ++ items ws) q e → Writes e q (32 ∷ w) r f → Writes d p (s ++ items (ws ++ w ∷ [])) r f
item s ws {w} first second = rw (items_more ws w, ← append_assoc s (items ws) (32 ∷ w)) (after first second)

-- a whole line, from place 0 on
pub whole-line : {d line : List ℕ} {n : ℕ} {e : List ℕ} → Writes d 0 line n e → WritesLine d line n e
whole-line {d} {line} {n} {e} w = record {
  room = omega (arith, w.room, w.next);
  count = w.next ∙ zero-add (length line);
  front = before w;
  rest = behind w ∙ ap (λ (k : ℕ). drop k d) (sym w.next);
}
