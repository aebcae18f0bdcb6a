-- The numbers of the rows in the table of refusals.
use Rattle.std.specs.Prelude.{◌≡◌, ℕ, Option, Some, None, Result, MatchResult}
use Rattle.rows.specs.declared.Row.{Row}
use Rattle.rows.specs.declared.Refusal.{Refusal}
use Rattle.rows.specs.declared.Row.TheVariants.{Size, Byte, Shape, Count, Again, Kind, Arity, Negation, Variables, End, Carried, Lent, Length, States, Place, NoVariable, Objects, Lines, Processes, Moves, Question, Unreachable}

abbrev pub number_of : Row → ℕ
number_of Size = 1
number_of Byte = 2
number_of Shape = 3
number_of Count = 4
number_of Again = 5
number_of Kind = 6
number_of Arity = 7
number_of Negation = 8
number_of Variables = 9
number_of End = 10
number_of Carried = 11
number_of Lent = 12
number_of Length = 14
number_of States = 15
number_of Place = 16
number_of NoVariable = 17
number_of Objects = 18
number_of Lines = 19
number_of Processes = 20
number_of Moves = 21
number_of Question = 22
number_of Unreachable = 23

-- a row's number, 0 where there is none
abbrev pub row_number : Option Row → ℕ
row_number None = 0
row_number (Some r) = number_of r

-- an answer that refuses, with row n on line l
abbrev pub Refuses : {A : Type 0} → ℕ → ℕ → Result A Refusal → Type 0
Refuses n l r = MatchResult r (λ _. ⊥) (λ x. (number_of x.row ≡ n) × (x.line ≡ l))
