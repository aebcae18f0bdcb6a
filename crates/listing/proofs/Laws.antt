-- Lines written one after another are the listing.
use mathlib.Core.Path.{◌≡◌, sym, ap, ◌∙◌}
use mathlib.Core.Bool.{Bool}
use mathlib.Core.List.{List, [], ◌∷◌, ◌++◌, map, append_assoc, append-nil, map-append, map-map}
use mathlib.Core.Option.{Option, some}
use Prim.Native.Nat.{ℕ, ◌+◌, ◌≤◌, ◌<◌}
use native.Mathlib.Nat.{zero-add}
use native.Mathlib.Numerals.{add-one}
use native.Mathlib.Omega.{arith}
use lib.ListN.{length, take, drop, get_or, take-append-drop, length-drop}
use lib.Seq.{take-suc, drop-append-le, drop-drop, length-take-le}
use Rattle.listing_bytes.specs.Writing.{Writes, WritesLine}
use Rattle.listing_bytes.proofs.Writing.{after, whole-line}
use Rattle.semantics.specs.Runs.{Place}
use Rattle.model.specs.declared.Model.{Model}
use Rattle.model.specs.Places.{place_of}
use Rattle.listing_lines.specs.Lines.{verdict_line, states_line, place_line, line_for, joined, listing_of}
use Rattle.listing.specs.Report.{state_lines, run_lines, WritesListing}

-- a line written to the front of the k bytes from place p on is written from place p on
module _ (d : List ℕ) (p k : ℕ) (room : p + k ≤ length d) where
  pub part_length : length (take k (drop p d)) ≡ k
  part_length = length-take-le k (drop p d) (omega (arith, length-drop p d))

  pub line_at : {line : List ℕ} {n : ℕ} {e : List ℕ} → WritesLine (take k (drop p d)) line n e → Writes d p line (p + n) (take p d ++ (e ++ drop k (drop p d)))
  line_at {line} {n} {e} w =
      let fits : n ≤ k = omega (arith, w.room, part_length) in
      let rest : drop n (take k (drop p d)) ++ drop k (drop p d) ≡ drop (p + n) d =
      sym (drop-append-le n (take k (drop p d)) (drop k (drop p d)) w.room) ∙ ap (drop n) (take-append-drop k (drop p d)) ∙ drop-drop n p d in
      let whole : e ≡ line ++ drop n (take k (drop p d)) = sym (take-append-drop n e) ∙ rw (w.front, w.rest) in
      record {
        room = omega (arith, w.count);
        next = ap (λ (m : ℕ). p + m) w.count;
        bytes = rw (← w.count, whole, append_assoc line (drop n (take k (drop p d))) (drop k (drop p d)), rest, ← append_assoc (take p d) line (drop (p + n) d));
      }

-- a line written to the front is written from place 0 on
pub from_front : {d line : List ℕ} {n : ℕ} {e : List ℕ} → WritesLine d line n e → Writes d 0 line n e
from_front {d} {line} {n} {e} w = record {
  room = omega (arith, w.room, w.count);
  next = w.count ∙ sym (zero-add (length line));
  bytes = sym (take-append-drop n e) ∙ rw (w.front, w.rest, w.count, zero-add (length line));
}

-- one line more
joined-more : (ls : List (List ℕ)) (l : List ℕ) → joined (ls ++ l ∷ []) ≡ joined ls ++ l
joined-more [] l = append-nil l
joined-more (k ∷ ls) l = rw (joined-more ls l, append_assoc k (joined ls) l)

pub line-more : (f : ℕ → List ℕ) (xs : List ℕ) (i : ℕ) → i < length xs → {d : List ℕ} {p q r : ℕ} {e g : List ℕ}
    → Writes d p (joined (map f (take i xs))) q e → Writes e q (f (get_or xs i 0)) r g → Writes d p (joined (map f (take (i + 1) xs))) r g
line-more f xs i h first second =
    rw (add-one i, take-suc xs i 0 h, map-append f (take i xs) (get_or xs i 0 ∷ []), joined-more (map f (take i xs)) (f (get_or xs i 0))) (after first second)

-- the lines of numbers that stand for places are those of the places
run-lines : (ns : List ℕ) (ps : List Place) → map place_of ns ≡ map some ps → joined (map (λ n. line_for (place_of n)) ns) ≡ joined (map place_line ps)
run-lines ns ps h = sym (ap joined (map-map line_for place_of ns)) ∙ ap (λ (os : List (Option Place)). joined (map line_for os)) h ∙ ap joined (map-map line_for some ps)

-- the summary, the lines of the states and those of the run are the listing
pub whole-listing : (text : List ℕ) (m : Model) (reached : Bool) (states run : List ℕ)
    → {d : List ℕ} {p : ℕ} {e : List ℕ} {q : ℕ} {f : List ℕ} {r : ℕ} {g : List ℕ}
    → Writes d 0 (verdict_line reached ++ states_line (length states)) p e → Writes e p (state_lines text m states) q f → Writes f q (run_lines run) r g
    → WritesListing d text m reached states run r g
unfolding listing_of
whole-listing text m reached states run first second third places e =
    rw (← run-lines run places e) (whole-line (after (after first second) third))
