-- Laws of reading items one after the other.
use mathlib.Core.Path.{◌≡◌, refl, sym, ap, ◌∙◌}
use mathlib.Core.List.{List, [], ◌∷◌, ◌++◌, append_assoc, append-nil}
use mathlib.Core.Option.{none, some}
use Prim.Native.Nat.{ℕ, zero, suc, ◌+◌, ◌-◌, ◌≤◌, ◌<◌}
use native.Mathlib.Omega.{arith}
use lib.ListN.{length, drop, length-append}
use Rattle.grammar.specs.Bytes.{bytes}
use Rattle.grammar.specs.Shapes.{Read, ◌>>=◌, after, rest}

-- items read before those that are read now
abbrev pub onto : {A : Type 0} → List A → Read (List A) → Read (List A)
onto xs none = none
onto xs (some r) = some (xs ++ r.0, r.1)

pub onto-nothing : {A : Type 0} (r : Read (List A)) → onto [] r ≡ r
onto-nothing none = refl
onto-nothing (some r) = refl

pub onto-more : {A : Type 0} (xs : List A) (x : A) (r : Read (List A)) → onto xs (onto (x ∷ []) r) ≡ onto (xs ++ (x ∷ [])) r
onto-more xs x none = refl
onto-more xs x (some r) = ap (λ (ys : List _). some (ys, r.1)) (sym (append_assoc xs (x ∷ []) r.0))

module _ {A : Type 0} (item : List ℕ → Read A) where
  -- the bracket ends
  pub rest-closes : (n : ℕ) (s : List ℕ) {t : List ℕ} → after (bytes ")") s ≡ some t → rest item n s ≡ some ([], t)
  unfolding rest
  rest-closes zero s h = rw h
  rest-closes (suc n) s h = rw h

  -- there are no more items to be read
  pub rest-full : (s : List ℕ) → after (bytes ")") s ≡ none → rest item zero s ≡ none
  unfolding rest
  rest-full s h = rw h

  -- there is neither an item nor the end
  pub rest-ends : (n : ℕ) (s : List ℕ) → after (bytes ")") s ≡ none → after (bytes " ") s ≡ none → rest item n s ≡ none
  unfolding rest
  rest-ends zero s h k = rw h
  rest-ends (suc n) s h k = rw (h, k)

  pub rest-fails : (n : ℕ) (s : List ℕ) {t : List ℕ} → after (bytes ")") s ≡ none → after (bytes " ") s ≡ some t → item t ≡ none → rest item n s ≡ none
  unfolding rest
  rest-fails zero s h k l = rw h
  rest-fails (suc n) s h k l = rw (h, k, l)

  one : (x : A) (q : Read (List A)) → (q >>= λ r. some (x ∷ r.0, r.1)) ≡ onto (x ∷ []) q
  one x none = refl
  one x (some r) = refl

  -- one item more
  pub rest-item : (n : ℕ) (s : List ℕ) {t u : List ℕ} {x : A} → after (bytes ")") s ≡ none → after (bytes " ") s ≡ some t → item t ≡ some (x, u) → rest item (suc n) s ≡ onto (x ∷ []) (rest item n u)
  unfolding rest
  rest-item n s {u = u} {x = x} h k l = rw (h, k, l) (one x (rest item n u))

-- READING ON: the items more were read from at to i, of at most n items; at most k are left
pub record Reading {A : Type 0} (item : List ℕ → Read A) (text : List ℕ) (at n : ℕ) (more : List A) (i k : ℕ) : Type 0 where
  pub begins : at ≤ i
  pub ends : i ≤ length text
  pub count : length more + k ≡ n
  pub read : rest item n (drop at text) ≡ onto more (rest item k (drop i text))

module _ {A : Type 0} {item : List ℕ → Read A} {text : List ℕ} {at n : ℕ} {more : List A} {i k : ℕ} (so : Reading item text at n more i k) where
  pub reading-more : {x : A} {e : ℕ} → 0 < k → after (bytes ")") (drop i text) ≡ none → after (bytes " ") (drop i text) ≡ some (drop (i + 1) text)
      → i + 1 < e → e ≤ length text → item (drop (i + 1) text) ≡ some (x, drop e text) → Reading item text at n (more ++ (x ∷ [])) e (k - 1)
  reading-more {x} {e} h p q a b r = record {
    begins = omega (arith, so.begins);
    ends = b;
    count = omega (arith, length-append more (x ∷ []), so.count);
    read = so.read ∙ go k h;
  }
    where
      go : (m : ℕ) → 0 < m → onto more (rest item m (drop i text)) ≡ onto (more ++ (x ∷ [])) (rest item (m - 1) (drop e text))
      go zero z = absurd (omega arith)
      go (suc m) z = let y : suc m - 1 ≡ m = omega arith in rw (y, rest-item item m (drop i text) p q r) (onto-more more x (rest item m (drop e text)))

  pub reading-closed : after (bytes ")") (drop i text) ≡ some (drop (i + 1) text) → rest item n (drop at text) ≡ some (more, drop (i + 1) text)
  reading-closed p = so.read ∙ rw (rest-closes item k (drop i text) p, append-nil)

  pub reading-full : k ≤ 0 → after (bytes ")") (drop i text) ≡ none → rest item n (drop at text) ≡ none
  reading-full h p = let z : k ≡ 0 = omega arith in so.read ∙ rw (z, rest-full item (drop i text) p)

  pub reading-ends : after (bytes ")") (drop i text) ≡ none → after (bytes " ") (drop i text) ≡ none → rest item n (drop at text) ≡ none
  reading-ends p q = so.read ∙ rw (rest-ends item k (drop i text) p q)

  pub reading-fails : after (bytes ")") (drop i text) ≡ none → after (bytes " ") (drop i text) ≡ some (drop (i + 1) text) → item (drop (i + 1) text) ≡ none → rest item n (drop at text) ≡ none
  reading-fails p q r = so.read ∙ rw (rest-fails item k (drop i text) p q r)
