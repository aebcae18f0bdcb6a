-- Laws of row numbers: only none has the number 0, and no two rows have one number.
use mathlib.Core.Path.{◌≡◌, refl, sym, ap, ◌∙◌}
use mathlib.Core.Bool.{false, true≢false}
use mathlib.Core.List.{[], ◌∷◌}
use Prim.Native.Nat.{ℕ}
use native.Mathlib.Omega.{arith}
use lib.ListN.{get_or}
use Rattle.std.specs.Prelude.{Option, Some, None, is_some, Result, Ok, Err}
use Rattle.rows.specs.Rows.{number_of, row_number, Refuses}
use Rattle.rows.specs.declared.Row.{Row}
use Rattle.rows.specs.declared.Refusal.{Refusal}
use Rattle.rows.specs.declared.Row.TheVariants.{Size, Byte, Shape, Count, Again, Kind, Arity, Negation, Variables, End, Carried, Lent, Length, States, Place, NoVariable, Objects, Lines, Processes, Moves, Question, Unreachable}

pub some-number : (r : Row) → number_of r ≡ 0 → ⊥
some-number Size e = omega arith
some-number Byte e = omega arith
some-number Shape e = omega arith
some-number Count e = omega arith
some-number Again e = omega arith
some-number Kind e = omega arith
some-number Arity e = omega arith
some-number Negation e = omega arith
some-number Variables e = omega arith
some-number End e = omega arith
some-number Carried e = omega arith
some-number Lent e = omega arith
some-number Length e = omega arith
some-number States e = omega arith
some-number Place e = omega arith
some-number NoVariable e = omega arith
some-number Objects e = omega arith
some-number Lines e = omega arith
some-number Processes e = omega arith
some-number Moves e = omega arith
some-number Question e = omega arith
some-number Unreachable e = omega arith

pub row-none : (o : Option Row) → is_some o ≡ false → row_number o ≡ 0
row-none None e = refl
row-none (Some r) e = absurd (true≢false e)

-- the row of a number, and any for a number that no row has
row_of : ℕ → Row
row_of n = get_or (Size ∷ Size ∷ Byte ∷ Shape ∷ Count ∷ Again ∷ Kind ∷ Arity ∷ Negation ∷ Variables ∷ End ∷ Carried ∷ Lent ∷ Size ∷ Length ∷ States ∷ Place ∷ NoVariable ∷ Objects ∷ Lines ∷ Processes ∷ Moves ∷ Question ∷ Unreachable ∷ []) n Size

known : (r : Row) → row_of (number_of r) ≡ r
unfolding row_of
known Size = refl
known Byte = refl
known Shape = refl
known Count = refl
known Again = refl
known Kind = refl
known Arity = refl
known Negation = refl
known Variables = refl
known End = refl
known Carried = refl
known Lent = refl
known Length = refl
known States = refl
known Place = refl
known NoVariable = refl
known Objects = refl
known Lines = refl
known Processes = refl
known Moves = refl
known Question = refl
known Unreachable = refl

pub same-row : (r s : Row) → number_of r ≡ number_of s → r ≡ s
same-row r s e = sym (known r) ∙ ap row_of e ∙ known s

pub same-refusal : (x y : Refusal) → number_of x.row ≡ number_of y.row → x.line ≡ y.line → x ≡ y
same-refusal x y e l = ap (λ (r : Row). record { row = r; line = x.line }) (same-row x.row y.row e) ∙ ap (λ (n : ℕ). record { row = y.row; line = n }) l

-- one refusal has one answer
pub refuses_one : {A : Type 0} (n l : ℕ) (r s : Result A Refusal) → Refuses n l r → Refuses n l s → r ≡ s
refuses_one n l (Ok a) s g h = absurd g
refuses_one n l (Err x) (Ok b) g h = absurd h
refuses_one n l (Err x) (Err y) g h = ap Err (same-refusal x y (g.0 ∙ sym h.0) (g.1 ∙ sym h.1))
