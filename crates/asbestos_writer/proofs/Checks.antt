-- LAWS OF THE CHECKS: kinds with their levels among the five, and what a call that is not refused is.
use mathlib.Core.Path.{◌≡◌, refl, sym, subst, ◌∙◌}
use mathlib.Core.Logic.{⊎_elim}
use mathlib.Core.Bool.{Bool, true, false, not, ◌&&◌, ◌||◌, false≢true}
use mathlib.Core.List.{List, [], ◌∷◌, ◌++◌, map, map-append}
use Prim.Native.Nat.{ℕ, zero, suc, ◌+◌, ◌*◌, ◌≤◌, ◌<◌}
use native.Mathlib.Nat.{not-suc-le-zero}
use native.Mathlib.Numerals.{add-one}
use native.Mathlib.Omega.{arith}
use lib.Dec.{eqb, ltb}
use lib.ListN.{length, get_or, length-append}
use borrow.Author.Tests.{eqb-false, ne_eqb, ltb-true, ltb-false, lt-ltb, le-ltb, not-false}
use Rattle.std.proofs.lemmas.Bool.{cases_Bool}
use Rattle.std.specs.Bool.{MatchBool}
use Rattle.std.specs.List.{range_with_len, AllWithin, HoldsAt}
use Rattle.std.proofs.lemmas.List.FromFn.{length-range_with_len, get_or-range_with_len}
use Rattle.limits.specs.Limits as limit
use Rattle.semantics.proofs.Tools.{or-false, same?}
use Rattle.grammar.proofs.Tests.{and_left, and_right}
use Rattle.listing_bytes.specs.Writing.{Writes}
use Rattle.listing_bytes.proofs.Writing.{after}
use Rattle.asbestos.specs.Messages.{levels, Process, most, Proper, AllProper}
use Rattle.asbestos.proofs.Same.{proper-append}
use Rattle.asbestos_forms.specs.Forms.{born_form, printed}
use Rattle.asbestos_forms.proofs.Printed.{printed-append}
use Rattle.asbestos_forms.proofs.Sizes.{kinds-short}
use Rattle.asbestos_writer.specs.declared.Kind.{Kind}
use Rattle.asbestos_writer.specs.Parts.{Is}
use Rattle.asbestos_writer.specs.Writing.{kind_at, kinds_of, is_level, all_proper, refuses}
use Rattle.asbestos_writer.proofs.Bytes.{born-bytes, born-printed}

-- WHAT THE TEST OF ALL KINDS SAYS
all-proper : (ks : List Process) → all_proper ks ≡ true → AllProper ks
all-proper [] e = tt
all-proper (k ∷ ks) e =
    let h = and_left (is_level k.send && is_level k.receive) (all_proper ks) e in (
      (ltb-true k.send levels (and_left (is_level k.send) (is_level k.receive) h), ltb-true k.receive levels (and_right (is_level k.send) (is_level k.receive) h)),
      all-proper ks (and_right (is_level k.send && is_level k.receive) (all_proper ks) e),
    )

proper-all : (ks : List Process) → AllProper ks → all_proper ks ≡ true
proper-all [] h = refl
proper-all (k ∷ ks) h = rw (lt-ltb k.send levels h.0.0, lt-ltb k.receive levels h.0.1) (proper-all ks h.1)

-- the last one, and those before it
proper-parts : (ps : List Process) (p : Process) → AllProper (ps ++ p ∷ []) → AllProper ps × Proper p
proper-parts [] p h = (tt, h.0)
proper-parts (q ∷ ps) p h = let r = proper-parts ps p h.1 in ((h.0, r.0), r.1)

-- what the test of one kind says
module _ {k : Kind} {p : Process} (is : Is k p) where
  pub good-kind : (is_level k.send && is_level k.receive) ≡ true → Proper p
  good-kind e = (rw is.send at (ltb-true k.send levels (and_left (is_level k.send) (is_level k.receive) e)), rw is.receive at (ltb-true k.receive levels (and_right (is_level k.send) (is_level k.receive) e)))

  pub bad-kind : (is_level k.send && is_level k.receive) ≡ false → Proper p → ⊥
  bad-kind e g = absurd (false≢true (sym e ∙ rw (is.send, is.receive, lt-ltb p.send levels g.0, lt-ltb p.receive levels g.1)))

-- THE FIRST KINDS of the cells
module _ (cells : List ℕ) where
  pub kinds-long : (n : ℕ) → length (kinds_of cells n) ≡ n
  kinds-long zero = refl
  kinds-long (suc n) = omega (arith, kinds-long n, length-append (kinds_of cells n) (kind_at cells n ∷ []))

  pub kind-proper : (n : ℕ) → AllProper (kinds_of cells n) → (i : ℕ) → i < n → Proper (kind_at cells i)
  kind-proper zero h i l = absurd (not-suc-le-zero l)
  kind-proper (suc n) h i l =
      let r = proper-parts (kinds_of cells n) (kind_at cells n) h in
      ⊎_elim (λ e. subst (λ (k : ℕ). Proper (kind_at cells k)) (sym e) r.1) (λ e. kind-proper n r.0 i (omega arith)) (same? i n)

  -- if each is among the five, all are
  all-good : (n : ℕ) → ((i : ℕ) → i < n → Proper (kind_at cells i)) → AllProper (kinds_of cells n)
  all-good zero h = tt
  all-good (suc n) h = proper-append (kinds_of cells n) (kind_at cells n) (all-good n (λ i l. h i (omega arith))) (h n (omega arith))

  -- one that is not among the five is enough
  one-bad : (n i : ℕ) → i < n → (Proper (kind_at cells i) → ⊥) → all_proper (kinds_of cells n) ≡ false
  one-bad n i l b = ⊎_elim (λ e. absurd (b (kind-proper n (all-proper (kinds_of cells n) e) i l))) (λ e. e) (cases_Bool (all_proper (kinds_of cells n)))

  -- the test of the first n
  module _ (n : ℕ) where
    abbrev numbers : List ℕ
    numbers = range_with_len 0 n

    abbrev Good : ℕ → Type 0
    Good i = Proper (kind_at cells i)

    long : length numbers ≡ n
    long = length-range_with_len 0 n

    at : (i : ℕ) → i < n → get_or numbers i 0 ≡ i
    at i l = get_or-range_with_len 0 n i 0 l ∙ omega arith

    pub tested : (r : Bool) → MatchBool r (AllWithin Good numbers 0 (length numbers)) ((k : ℕ) × (k < length numbers) × HoldsAt (λ i. Good i → ⊥) numbers k) → r ≡ all_proper (kinds_of cells n)
    tested true h = sym (proper-all (kinds_of cells n) (all-good n (λ i l. subst Good (at i l) (h i 0 (omega arith) (omega (arith, long))))))
    tested false h = let l : h.0 < n = omega (arith, h.1, long) in sym (one-bad n h.0 l (λ g. h.2 0 (subst Good (sym (at h.0 l)) g)))

  module _ (n : ℕ) (h : AllProper (kinds_of cells n)) where
    pub kinds-room : (i : ℕ) → i ≤ n → length (printed (map born_form (kinds_of cells i))) ≤ 28 * i
    kinds-room i l = omega (arith, kinds-short (kinds_of cells i) (all-good i (λ j k. kind-proper n h j (omega arith))), kinds-long i)

    -- one more of them is written
    pub written-kind : (i : ℕ) → i < n → {d : List ℕ} {p q : ℕ} {e : List ℕ} {r : ℕ} {f : List ℕ}
        → Writes d p (printed (map born_form (kinds_of cells i))) q e → Writes e q (born-bytes (kind_at cells i)) r f
        → Writes d p (printed (map born_form (kinds_of cells (i + 1)))) r f
    written-kind i l first second = rw (
      add-one i,
      map-append born_form (kinds_of cells i) (kind_at cells i ∷ []),
      printed-append (map born_form (kinds_of cells i)) (born_form (kind_at cells i) ∷ []),
      born-printed (kind_at cells i) (kind-proper n h i l),
    ) (after first second)

-- A CALL that is not refused
module _ (kinds : List Process) (port level room : ℕ) where
  pub record Fit : Type 0 where
    pub some : 0 < length kinds
    pub few : length kinds ≤ most
    pub proper : AllProper kinds
    pub low : port < levels
    pub asked : level < levels
    pub wide : limit.text ≤ room

  pub fit : refuses kinds port level room ≡ false → Fit
  unfolding refuses
  fit e =
      let f = or-false (eqb n 0 || ltb most n || not (all_proper kinds) || not (is_level port) || not (is_level level)) (ltb room limit.text) e in
      let g = or-false (eqb n 0 || ltb most n || not (all_proper kinds) || not (is_level port)) (not (is_level level)) f.0 in
      let h = or-false (eqb n 0 || ltb most n || not (all_proper kinds)) (not (is_level port)) g.0 in
      let k = or-false (eqb n 0 || ltb most n) (not (all_proper kinds)) h.0 in
      let l = or-false (eqb n 0) (ltb most n) k.0 in
      record {
        some = omega (arith, eqb-false n 0 l.0);
        few = ltb-false most n l.1;
        proper = all-proper kinds (not-false (all_proper kinds) k.1);
        low = ltb-true port levels (not-false (is_level port) h.1);
        asked = ltb-true level levels (not-false (is_level level) g.1);
        wide = ltb-false room limit.text f.1;
      }
    where
      n : ℕ
      n = length kinds

  pub unfit : (Fit → ⊥) → refuses kinds port level room ≡ true
  unfit n = ⊎_elim (λ e. e) (λ e. absurd (n (fit e))) (cases_Bool (refuses kinds port level room))

  -- where all but the kinds' levels is right, they decide
  pub last-proper : 0 < length kinds → length kinds ≤ most → port < levels → level < levels → limit.text ≤ room → (r : Bool) → r ≡ all_proper kinds → not r ≡ refuses kinds port level room
  unfolding refuses
  last-proper some few low asked wide r e = rw (
    e,
    ne_eqb (length kinds) 0 (λ z. omega (arith, some)),
    le-ltb most (length kinds) few,
    lt-ltb port levels low,
    lt-ltb level levels asked,
    le-ltb room limit.text wide,
  ) (tail (not (all_proper kinds)))
    where
      tail : (b : Bool) → b ≡ (false || false || b || false || false || false)
      tail true = refl
      tail false = refl
