-- How long the items of a line are.
use mathlib.Core.Path.{◌≡◌}
use mathlib.Core.Logic.{⊎_elim}
use mathlib.Core.Bool.{true, false}
use mathlib.Core.List.{List, [], ◌∷◌, map, append-nil}
use Prim.Native.Nat.{ℕ, zero, suc, ◌+◌, ◌*◌, ◌≤◌, ◌<◌}
use native.Mathlib.Omega.{arith}
use lib.Dec.{eqb}
use lib.ListN.{length, take, get_or, length-append}
use lib.Seq.{take-suc, take-take, length-slice}
use borrow.Author.Tests.{eq-eqb}
use mir.Syntax.{w32}
use mir.Val.{Fits}
use Rattle.std.proofs.lemmas.Bool.{cases_Bool}
use Rattle.limits.specs.Limits as limit
use Rattle.semantics.specs.Labels.{has}
use Rattle.model.specs.declared.Model.{Model}
use Rattle.model.specs.Records.{name_of}
use Rattle.model.specs.Places.{objects}
use Rattle.model.specs.WellFormed.{class_of, in_class, declared_in, GoodRelations}
use Rattle.model.proofs.Declarations.{in_class-snoc, set_below}
use Rattle.listing_bytes.specs.Numerals.{decimal}
use Rattle.listing_bytes.specs.Forms.{items}
use Rattle.listing_lines.specs.Lines.{name_at, names_in, Named}
use Rattle.listing_bytes.proofs.Decimal.{word-short}
use Rattle.listing_bytes.proofs.Writing.{items_more}

-- OBJECTS are numbers of 32 bits
abbrev pub Words : List ℕ → Type 0
Words [] = Unit {0}
Words (o ∷ os) = Fits w32 o × Words os

pub objects-short : (os : List ℕ) → Words os → length (items (map decimal (objects os))) ≤ 11 * length os
objects-short [] h = omega arith
objects-short (o ∷ os) h = ⊎_elim (λ (q : eqb o 255 ≡ true). rw q (omega arith))
    (λ (q : eqb o 255 ≡ false). rw (q, length-append (decimal o) (items (map decimal (objects os)))) (omega (arith, word-short o h.0, objects-short os h.1))) (cases_Bool (eqb o 255))

-- NAMES have at most 16 bytes, and at most 24 are of state relations
fewer : (k i : ℕ) (rs : List ℕ) → in_class k (take i rs) ≤ in_class k rs
fewer k zero rs = omega arith
fewer k (suc i) [] = omega arith
fewer k (suc i) (r ∷ rs) = ⊎_elim (λ (q : eqb (class_of r) k ≡ true). rw q (omega (arith, fewer k i rs))) (λ (q : eqb (class_of r) k ≡ false). rw q (fewer k i rs)) (cases_Bool (eqb (class_of r) k))

module _ (text : List ℕ) (m : Model) (s : ℕ) (small : Fits w32 s) (good : GoodRelations m) (named : Named text m) (whole : length m.relations.codes ≡ limit.declared) where
  abbrev code : ℕ → ℕ
  code i = get_or m.relations.codes i 0

  abbrev states : ℕ → ℕ
  states i = in_class 0 (take i m.relations.codes)

  states-few : (i : ℕ) → i ≤ m.relations.count → states i ≤ limit.states
  unfolding declared_in
  states-few i h = omega (arith, good.states, rw (take-take i m.relations.count m.relations.codes h) at (fewer 0 i (take m.relations.count m.relations.codes)))

  states-more : (i : ℕ) → i < m.relations.count → states (suc i) ≡ states i + in_class 0 (code i ∷ [])
  states-more i h = rw (take-suc m.relations.codes i 0 (omega (arith, good.count))) (in_class-snoc 0 (code i) (take i m.relations.codes))

  -- a relation of the set is a state relation
  state-more : (i : ℕ) → i < m.relations.count → has s (code i) ≡ true → states (suc i) ≡ states i + 1
  state-more i h e = rw (eq-eqb (class_of (code i)) 0 (omega (arith, set_below s (code i) 32 small.fits e))) at (states-more i h)

  name-short : (i : ℕ) → i < m.relations.count → length (name_at text m i) ≤ limit.name
  name-short i h = omega (arith, length-slice (name_of m i).start ((name_of m i).start + (name_of m i).len) text (named.within i h), named.short i h)

  names-short : (i : ℕ) → i ≤ m.relations.count → length (items (names_in text m s i)) ≤ (1 + limit.name) * states i
  names-short zero h = omega arith
  names-short (suc i) h = ⊎_elim
      (λ (q : has s (code i) ≡ true).
      rw (q, items_more (names_in text m s i) (name_at text m i), length-append (items (names_in text m s i)) (32 ∷ name_at text m i)) (omega (arith, names-short i (omega arith), name-short i h, state-more i h q)))
      (λ (q : has s (code i) ≡ false). rw (q, append-nil (names_in text m s i)) (omega (arith, names-short i (omega arith), states-more i h)))
      (cases_Bool (has s (code i)))

  -- there is room for the next name
  pub name-room : (i : ℕ) → i < m.relations.count → has s (code i) ≡ true → length (items (names_in text m s i)) + (1 + limit.name) ≤ limit.states * (1 + limit.name)
  name-room i h e = omega (arith, names-short i (omega arith), state-more i h e, states-few (suc i) h)

  pub names-room : length (items (names_in text m s m.relations.count)) ≤ limit.states * (1 + limit.name)
  names-room = omega (arith, names-short m.relations.count (omega arith), states-few m.relations.count (omega arith))
