-- THE WORDS OF ANSWERS: kind × 2^32 + value; a refusal is of kind 2, and its value is number × 65,536 + line.
use Rattle.std.specs.Prelude.{ℕ, ◌+◌, ◌*◌, Result, Ok, Err}
use Rattle.rows.specs.Rows.{number_of}
use Rattle.rows.specs.declared.Refusal.{Refusal}
use Rattle.words.specs.declared.Numbered.{Numbered}
use Rattle.words.specs.declared.Kind.{Kind}
use Rattle.words.specs.declared.Kind.TheVariants.{Unreached, Reached, Refused, Kept, Broken, Unreadable, Right, Other, Breaks, SaysNo, SaysYes, Strike, NoChoice, Counted, Written, Told, Way, NoWay}

abbrev pub kind_number : Kind → ℕ
kind_number Unreached = 0
kind_number Reached = 1
kind_number Refused = 2
kind_number Kept = 3
kind_number Broken = 4
kind_number Unreadable = 5
kind_number Right = 6
kind_number Other = 7
kind_number Breaks = 8
kind_number SaysNo = 9
kind_number SaysYes = 10
kind_number Strike = 11
kind_number NoChoice = 12
kind_number Counted = 13
kind_number Written = 14
kind_number Told = 15
kind_number Way = 16
kind_number NoWay = 17

abbrev pub code : ℕ → ℕ → ℕ
code kind value = kind * 4294967296 + value

abbrev pub refusal : ℕ → ℕ → ℕ
refusal n l = code 2 (n * 65536 + l)

-- an answer whose refusal is told by its row's number, and its line
abbrev pub by_number : {A : Type 0} → Result A Refusal → Result A Numbered
by_number (Ok a) = Ok a
by_number (Err x) = Err (record { number = number_of x.row; line = x.line })
