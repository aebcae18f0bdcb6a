-- Laws of reading a row of items.
use mathlib.Core.Path.{◌≡◌, subst}
use mathlib.Core.List.{List, [], ◌∷◌, ◌++◌, append_assoc}
use mathlib.Core.Option.{none}
use Rattle.std.specs.Prelude.{Option, Some, None, MatchOption}
use Prim.Native.Nat.{ℕ, ◌+◌, ◌-◌}
use native.Mathlib.Omega.{arith}
use lib.ListN.{drop}
use Rattle.grammar.specs.Bytes.{bytes}
use Rattle.grammar.specs.Shapes.{Read, after, rest, bracket}
use Rattle.grammar.proofs.Reading.{Reading, reading-more, reading-closed}
use Rattle.text_scan.specs.Found.{BytesEnd}
use Rattle.text_rows.specs.Rows.{Extends, ItemEnd, RowEnd, BracketEnd}
use Rattle.text_rows.specs.declared.Taken.{Taken}

-- from s, which is kept at `at`, some items are read up to i, where t is kept; at most k are left
pub record RowSo {V C K : Type 0} (read : List ℕ → Read V) (held : C → List V → K → Type 0) (text : List ℕ) (at n : ℕ) (s t : K) (i k : ℕ) : Type 0 where
  pub more : List V
  pub reading : Reading read text at n more i k
  pub holds : Extends held s more t

module _ {V C K : Type 0} {read : List ℕ → Read V} {held : C → List V → K → Type 0} {text : List ℕ} {at n : ℕ} where
  module _ {s t : K} {i k : ℕ} (so : RowSo read held text at n s t i k) where
    pub row-more : {r : Taken K} {o j : ℕ} → j + 1 ≡ k → after (bytes ")") (drop i text) ≡ none → BytesEnd text i (bytes " ") o
        → ItemEnd read held text o t r → RowSo read held text at n s r.kept r.end j
    row-more {r} {o} {j} h p q e = record {
      more = so.more ++ (e.value ∷ []);
      reading = let z : k - 1 ≡ j = omega arith in subst (Reading read text at n (so.more ++ (e.value ∷ [])) r.end) z (reading-more so.reading (omega arith) p (rw q.begins at q.read) (omega (arith, q.begins, e.begins)) e.ends (rw q.begins at e.found));
      holds = λ c xs o. rw (← append_assoc) (e.holds c (xs ++ so.more) (so.holds c xs o));
    }

    pub row-closed : {e : ℕ} → BytesEnd text i (bytes ")") e → RowEnd read held text at n s (record { kept = t; end = e })
    row-closed p = record {
      more = so.more;
      few = omega (arith, so.reading.count);
      begins = omega (arith, so.reading.begins, p.begins);
      ends = p.ends;
      found = rw p.begins (reading-closed so.reading (rw p.begins at p.read));
      holds = so.holds;
    }

-- A BRACKET: its first item, and the row behind that
module _ {V C K : Type 0} {read : List ℕ → Read V} {held : C → List V → K → Type 0} {text : List ℕ} {at i : ℕ} {s : K} {x : Taken K} (p : BytesEnd text at (bytes "(") i) (e : ItemEnd read held text i s x) where
  pub bracket-read : (n : ℕ) (r : Option (Taken K)) → MatchOption r (rest read n (drop x.end text) ≡ none) (RowEnd read held text x.end n x.kept)
      → MatchOption r (bracket read n (drop at text) ≡ none) (BracketEnd read held text at n s)
  unfolding bracket
  bracket-read n None v = rw (p.read, e.found, v)
  bracket-read n (Some r) v = record {
    items = e.value ∷ v.more;
    begins = omega (arith, p.begins, e.begins, v.begins);
    ends = v.ends;
    found = rw (p.read, e.found, v.found);
    holds = λ c xs so. subst (λ (l : List V). held c l r.kept) (append_assoc xs (e.value ∷ []) v.more) (v.holds c (xs ++ (e.value ∷ [])) (e.holds c xs so));
  }
