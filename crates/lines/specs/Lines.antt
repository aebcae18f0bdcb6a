-- THE ACCEPTED LINES: on which line of the text a clause stands, and what it is.
use Rattle.std.specs.Prelude.{if◌then◌else◌, ℕ, ◌+◌, ◌*◌, nat_lt, length, slice_index_or}
use Rattle.semantics.specs.Models.{Line, rule, new, next, other}
use Rattle.model.specs.declared.Action.{Action}
use Rattle.model.specs.declared.Action.TheVariants.{Rule, New, Next}
use Rattle.model.specs.declared.Clause.{Clause}
use Rattle.grammar.specs.Texts.{Outcome, accepted, refused}

-- 1 for a rule, 2 for a `new` line, 3 for a `next` line
abbrev pub kind : Line → ℕ
kind (rule r xs b) = 1
kind (new s b) = 2
kind (next x plus minus b) = 3
kind other = 0

abbrev pub described : ℕ × Line → ℕ
described c = c.0 * 4 + kind c.1

-- clause i of an accepted text, from 0: line × 4 + kind; 0 where there is none
unfoldable pub line_at : Outcome → ℕ → ℕ
line_at (refused n l) i = 0
line_at (accepted D P Q) i = if nat_lt i (length P) then described (slice_index_or P i (0, other)) else 0

-- the same of a record
abbrev pub kind_of : Action → ℕ
kind_of (Rule r n) = 1
kind_of (New s) = 2
kind_of (Next plus minus) = 3

unfoldable pub recorded : Clause → ℕ
recorded c = c.line * 4 + kind_of c.action

-- a record of no clause
abbrev pub nothing : Clause
nothing = record { action = Rule 0 0; line = 0; first = 0; count = 0; variables = 0 }
