-- Laws of the ends of lists, atoms, literals and stages.
use mathlib.Core.Bool.{false≢true}
use mathlib.Core.Path.{◌≡◌, refl, ap, ◌∙◌}
use mathlib.Core.List.{List, [], ◌∷◌, ◌++◌, append-nil}
use mathlib.Core.Option.{Option, none, some}
use Prim.Native.Nat.{ℕ, zero, suc, ◌-◌, ◌≤◌, ◌<◌}
use native.Mathlib.Omega.{arith}
use lib.ListN.{length, drop, length-drop}
use Rattle.limits.specs.Limits as limit
use Rattle.grammar.specs.Bytes.{bytes}
use Rattle.grammar.specs.Forms.{plain, negated}
use Rattle.grammar.specs.Shapes.{Read, ◌>>=◌, after, name, rest, bracket, atom, literal, list, stage}
use Rattle.grammar.proofs.Reading.{onto, onto-more, rest-closes, rest-full, rest-ends, rest-fails, rest-item}
use Rattle.text_scan.specs.Found.{BytesEnd, NameEnd}
use Rattle.display_shapes.specs.Ends.{after_space, EndsAt, Ends}
use Rattle.std.specs.Prelude as std
use Rattle.std.specs.Prelude.{Some, None, MatchOption}
use lib.Seq.{slice}

pub ends_some : {A : Type 0} {read : List ℕ → Read A} {text : List ℕ} {at e : ℕ} {x : A} → at < e → e ≤ length text → read (drop at text) ≡ some (x, drop e text) → EndsAt read text at e
ends_some {x} a b h = record { value = x; begins = a; ends = b; found = h }

-- where the bytes w that are next end, as `past` says it
abbrev Past : List ℕ → ℕ → List ℕ → std.Option ℕ → Type 0
Past text at w r = MatchOption r (after w (drop at text) ≡ none) (BytesEnd text at w)

-- ITEMS, one after the other: those more were read from at to i, of at most n items; at most k are left
pub record Going {A : Type 0} (item : List ℕ → Read A) (text : List ℕ) (at n i k : ℕ) : Type 0 where
  pub more : List A
  pub begins : at ≤ i
  pub ends : i ≤ length text
  pub read : rest item n (drop at text) ≡ onto more (rest item k (drop i text))

module _ {A : Type 0} (item : List ℕ → Read A) where
  -- an item behind a space is read
  rest-spaced : (k : ℕ) (s : List ℕ) {x : A} {u : List ℕ} → 0 < k → after (bytes ")") s ≡ none → after_space item s ≡ some (x, u) → rest item k s ≡ onto (x ∷ []) (rest item (k - 1) u)
  rest-spaced zero s h p q = absurd (omega arith)
  rest-spaced (suc k) s {x} {u} h p q = go (after (bytes " ") s) refl q
    where
      go : (o : Option (List ℕ)) → after (bytes " ") s ≡ o → (o >>= item) ≡ some (x, u) → rest item (suc k) s ≡ onto (x ∷ []) (rest item (suc k - 1) u)
      go none e r = absurd (false≢true cc)
      go (some t) e r = let z : suc k - 1 ≡ k = omega arith in rw z (rest-item item k s p e r)

  -- neither the bracket nor an item behind a space is read
  rest-stops : (k : ℕ) (s : List ℕ) → after (bytes ")") s ≡ none → after_space item s ≡ none → rest item k s ≡ none
  rest-stops k s p q = go (after (bytes " ") s) refl q
    where
      go : (o : Option (List ℕ)) → after (bytes " ") s ≡ o → (o >>= item) ≡ none → rest item k s ≡ none
      go none e r = rest-ends item k s p e
      go (some t) e r = rest-fails item k s p e r

module _ {A : Type 0} {item : List ℕ → Read A} {text : List ℕ} {at n i k : ℕ} (go : Going item text at n i k) where
  pub going_more : {e : ℕ} → 0 < k → after (bytes ")") (drop i text) ≡ none → EndsAt (after_space item) text i e → Going item text at n e (k - 1)
  going_more {e} h p v = record {
    more = go.more ++ (v.value ∷ []);
    begins = omega (arith, go.begins, v.begins);
    ends = v.ends;
    read = go.read ∙ (ap (onto go.more) (rest-spaced item k (drop i text) h p v.found) ∙ onto-more go.more v.value (rest item (k - 1) (drop e text)));
  }

  pub going-closed : {e : ℕ} → BytesEnd text i (bytes ")") e → EndsAt (rest item n) text at e
  going-closed c = ends_some {x = go.more} (omega (arith, go.begins, c.begins)) c.ends (go.read ∙ rw (rest-closes item k (drop i text) c.read, append-nil))

  pub going-stops : after (bytes ")") (drop i text) ≡ none → after_space item (drop i text) ≡ none → rest item n (drop at text) ≡ none
  going-stops p q = go.read ∙ rw (rest-stops item k (drop i text) p q)

  pub going-last : k ≤ 0 → (e : std.Option ℕ) → Past text i (bytes ")") e → Ends (rest item n) text at e
  going-last h None p = let z : k ≡ 0 = omega arith in go.read ∙ rw (z, rest-full item (drop i text) p)
  going-last h (Some e) c = going-closed c

-- BRACKETS
module _ (text : List ℕ) (at : ℕ) where
  pub list-empty : {e : ℕ} → BytesEnd text at (bytes "()") e → EndsAt list text at e
  unfolding list
  list-empty h = ends_some {x = []} (omega (arith, h.begins)) h.ends (rw h.read)

  module _ (no : after (bytes "()") (drop at text) ≡ none) {i : ℕ} (h : BytesEnd text at (bytes "(") i) where
    pub list-found : {e : ℕ} → NameEnd text i e → (r : std.Option ℕ) → Ends (rest name (limit.list - 1)) text e r → Ends list text at r
    unfolding list bracket
    list-found v None w = rw (no, h.read, v.read, w)
    list-found {e} v (Some r) w = ends_some {x = slice i e text ∷ w.value} (omega (arith, h.begins, v.begins, w.begins)) w.ends (rw (no, h.read, v.read, w.found))

  module _ {i : ℕ} (h : BytesEnd text at (bytes "(") i) where
    pub atom-found : {e : ℕ} → NameEnd text i e → (r : std.Option ℕ) → Ends (rest name (length text - at)) text e r → Ends atom text at r
    unfolding atom
    atom-found v None w = rw (h.read, v.read, length-drop, w)
    atom-found {e} v (Some r) w =
        ends_some {x = record { name = slice i e text; variables = w.value }} (omega (arith, h.begins, v.begins, w.begins)) w.ends (rw (h.read, v.read, length-drop, w.found))

    pub stage-found : {e : ℕ} → EndsAt literal text i e → (r : std.Option ℕ) → Ends (rest literal (limit.body - 1)) text e r → Ends stage text at r
    unfolding stage bracket
    stage-found v None w = rw (h.read, v.found, w)
    stage-found v (Some r) w = ends_some {x = v.value ∷ w.value} (omega (arith, h.begins, v.begins, w.begins)) w.ends (rw (h.read, v.found, w.found))

  -- LITERALS
  module _ {i : ℕ} (h : BytesEnd text at (bytes "(not ") i) {e : ℕ} (v : EndsAt atom text i e) where
    pub not-closed : (r : std.Option ℕ) → Past text e (bytes ")") r → Ends literal text at r
    unfolding literal
    not-closed None k = rw (h.read, v.found, k)
    not-closed (Some r) k = ends_some {x = negated v.value} (omega (arith, h.begins, v.begins, k.begins)) k.ends (rw (h.read, v.found, k.read))

  pub plain-found : after (bytes "(not ") (drop at text) ≡ none → (e : std.Option ℕ) → Ends atom text at e → Ends literal text at e
  unfolding literal
  plain-found h None v = rw (h, v)
  plain-found h (Some e) v = ends_some {x = plain v.value} v.begins v.ends (rw (h, v.found))
