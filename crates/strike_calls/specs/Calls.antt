-- CALLS OVER A TEXT AND A LIST OF LINES (document 02, R-8 and R-10): what the table answers before a choice is decided.
use Rattle.std.specs.Prelude.{false, if◌then◌else◌, List, ℕ, nat_lt, length}
use Rattle.limits.specs.Limits as limit
use Rattle.grammar.specs.Texts.{Outcome, accepted, refused}
use Rattle.calls.specs.Calls.{called}
use Rattle.striking.specs.Striking.{faulty}

-- "19 with line 0 if the list is .."; "it comes after the checks of lines, before 15"
abbrev pub with_list : List ℕ → Outcome → Outcome
with_list list (refused n l) = refused n l
with_list list (accepted D P Q) = if faulty P list then refused 19 0 else accepted D P Q

-- THE ANSWER TO A CALL: 1; 12, for the work area alone; the lines; 19
abbrev pub asked : List ℕ → List ℕ → List ℕ → Outcome
asked text list work = with_list list (called text (nat_lt (length work) limit.work) false)
