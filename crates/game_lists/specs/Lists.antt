-- WHAT IS REFUSED OF A GAME (document 02, R-12): the list of a side's lines, and the form of the question.
use Rattle.std.specs.Prelude.{◌≡◌, Bool, true, false, not, ◌||◌, List, [], ◌∷◌, ℕ, nat_lt, length}
use Rattle.semantics.specs.Models.{Body, Line, rule, new, next, other, Program, line, Question, names}
use Rattle.model.specs.declared.Model.{Model}
use Rattle.model.specs.Records.{stage_at}

-- "Each side has up to ten `next` lines"
abbrev pub most : ℕ
most = 10

abbrev pub is_next : Line → Bool
is_next (rule r xs b) = false
is_next (new s b) = false
is_next (next x plus minus b) = true
is_next other = false

-- the list "names a line that isn't `next`"
abbrev pub strange : Program → List ℕ → Bool
strange P [] = false
strange P (ℓ ∷ ls) = not (is_next (line P ℓ)) || strange P ls

-- 21: the list is "over ten", or names such a line
unfoldable pub faulty : Program → List ℕ → Bool
faulty P ls = nat_lt most (length ls) || strange P ls

-- "THE ASK HAS ONE STAGE WITH ONE VARIABLE": the stage b and the variable x. 22 "if the ask has another form"
abbrev pub Form : Question → Body → ℕ → Type 0
Form Q b x = (Q ≡ b ∷ []) × (names b ≡ x ∷ [])

-- the same by the record of a model
abbrev pub OneVariable : Model → Type 0
OneVariable m = (m.stagecount ≡ 1) × ((stage_at m 0).variables ≡ 1)
