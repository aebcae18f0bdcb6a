-- Two answers in one, by cases; where an answer has no row.
use mathlib.Core.Path.{◌≡◌, refl, sym, ◌∙◌}
use mathlib.Core.List.{[], ◌∷◌}
use mathlib.Core.Bool.{true, false}
use mathlib.Core.Logic.{⊎_elim}
use lib.Dec.{ltb}
use borrow.Author.Tests.{ltb-true, ltb-false}
use Prim.Native.Nat.{◌≤◌}
use native.Mathlib.Omega.{arith}
use Rattle.std.proofs.lemmas.Bool.{cases_Bool}
use Rattle.std.specs.Prelude.{Ok, Err}
use Rattle.grammar.proofs.Lower.{lower-first, lower-second, lower-both}
use Rattle.rows.specs.Rows.{number_of}
use Rattle.rows.specs.declared.Row.{Row}
use Rattle.rows.specs.declared.Row.TheVariants.{Size, Byte, Shape, Count, Again, Kind, Arity, Negation, Variables, End, Carried, Lent, Length, States, Place, NoVariable, Objects, Lines, Processes, Moves, Question, Unreachable}
use Rattle.rows.specs.contracts.Row.{the_type}
use Rattle.rows.specs.contracts.RowOrd.TheImpl.{cmp-value}
use Rattle.std.specs.Ordering.{int_cmp, ord_min}
use denote.Enum.Declared.{tag_of}
use lib.IntN.{ℤ, pos}
use lib.ListN.{get_or}
use Rattle.rows.proofs.Laws.{some-number}
use Rattle.text_faults.specs.Faults.{Both}

module _ {A B : Type 0} where
  pub both-ok : (x : A) (y : B) → Both (Ok x) (Ok y) (Ok (x, y))
  both-ok x y = record { number = sym (lower-first 0 0 refl); values = (refl, refl) }

  pub both-first : (x : Row) (y : B) → Both {A = A} (Err x) (Ok y) (Err x)
  both-first x y = record { number = sym (lower-second (number_of x) 0 refl); values = tt }

  pub both-second : (x : A) (y : Row) → Both {B = B} (Ok x) (Err y) (Err y)
  both-second x y = record { number = sym (lower-first 0 (number_of y) refl); values = tt }

  both-less : (x y : Row) → number_of x ≤ number_of y → Both {A = A} {B = B} (Err x) (Err y) (Err x)
  both-less x y h = record { number = let m = lower-both (number_of x) (number_of y) (some-number x) (some-number y) in omega arith; values = tt }

  both-more : (x y : Row) → number_of y ≤ number_of x → Both {A = A} {B = B} (Err x) (Err y) (Err y)
  both-more x y h = record { number = let m = lower-both (number_of x) (number_of y) (some-number x) (some-number y) in omega arith; values = tt }

-- THE ORDER OF ROWS is that of their numbers
key : Row → ℤ
key x = get_or (pos 1 ∷ pos 2 ∷ pos 3 ∷ pos 4 ∷ pos 5 ∷ pos 6 ∷ pos 7 ∷ pos 8 ∷ pos 9 ∷ pos 10 ∷ pos 11 ∷ pos 12 ∷ pos 14 ∷ pos 15 ∷ pos 16 ∷ pos 17 ∷ pos 18 ∷ pos 19 ∷ pos 20 ∷ pos 21 ∷ pos 22 ∷ pos 23 ∷ []) (tag_of the_type x) (pos 0)

keyed : (x : Row) → key x ≡ pos (number_of x)
unfolding key
keyed Size = refl
keyed Byte = refl
keyed Shape = refl
keyed Count = refl
keyed Again = refl
keyed Kind = refl
keyed Arity = refl
keyed Negation = refl
keyed Variables = refl
keyed End = refl
keyed Carried = refl
keyed Lent = refl
keyed Length = refl
keyed States = refl
keyed Place = refl
keyed NoVariable = refl
keyed Objects = refl
keyed Lines = refl
keyed Processes = refl
keyed Moves = refl
keyed Question = refl
keyed Unreachable = refl

ordered : (x y : Row) → cmp-value.it x y ≡ int_cmp (pos (number_of x)) (pos (number_of y))
unfolding key
ordered x y = let k : cmp-value.it x y ≡ int_cmp (key x) (key y) = refl in k ∙ rw (keyed x, keyed y) refl

module _ {A B : Type 0} (x y : Row) where
  pub both-min : (m : Row) → m ≡ ord_min cmp-value.it x y → Both {A = A} {B = B} (Err x) (Err y) (Err m)
  both-min m e = ⊎_elim
      (λ (q : ltb (number_of y) (number_of x) ≡ true). rw (e, ordered y x, q) (both-more x y (let z = ltb-true _ _ q in omega arith)))
      (λ (q : ltb (number_of y) (number_of x) ≡ false). ⊎_elim
      (λ (p : ltb (number_of x) (number_of y) ≡ true). rw (e, ordered y x, q, p) (both-less x y (ltb-false _ _ q)))
      (λ (p : ltb (number_of x) (number_of y) ≡ false). rw (e, ordered y x, q, p) (both-less x y (ltb-false _ _ q)))
      (cases_Bool (ltb (number_of x) (number_of y))))
      (cases_Bool (ltb (number_of y) (number_of x)))
