-- TEXTS: what the table answers to a text, line by line.
use Rattle.std.specs.Prelude.{if◌then◌else◌, ◌||◌, List, [], ◌∷◌, ◌++◌, ℕ, suc, ◌==◌, nat_lt, length}
use Rattle.std.proofs.Math.Option.{Option, none, some}
use Rattle.limits.specs.Limits as limit
use Rattle.semantics.specs.Models.{Program, Question}
use Rattle.grammar.specs.Bytes.{every, allowed, Line, ended, unended, lines}
use Rattle.grammar.specs.Forms.{Form, state_form, rel_form, rule_form, new_form, next_form, ask_form}
use Rattle.grammar.specs.Shapes.{form_of}
use Rattle.grammar.specs.Declarations.{Declared}
use Rattle.grammar.specs.Rows.{fault}
use Rattle.grammar.specs.Models.{declare, clause, question_of}

-- AN OUTCOME: the declared names with their relation codes, the program and the question; or a refusal with its number and line
pub data Outcome : Type 0 where
  accepted : Declared → Program → Question → Outcome
  refused : ℕ → ℕ → Outcome

-- one line by itself: row 2, "a byte other than ..; a last line without byte 10"; row 3, "a line that has none of the shapes"
pub data Judged : Type 0 where
  bad : ℕ → Judged
  good : Form → Judged

abbrev pub shaped : Option Form → Judged
shaped none = bad 3
shaped (some f) = good f

unfoldable pub judge : Line → Judged
judge (unended s) = bad 2
judge (ended s) = if every allowed s then shaped (form_of s) else bad 2

-- WHAT A LINE DOES, after the declarations D and the program P: it is refused; it adds to them; or it asks, and the text is to end
pub data Step : Type 0 where
  wrong : ℕ → Step
  adds : Declared → Program → Step
  asks : Outcome → Step

-- a line without fault
unfoldable pub effect : ℕ → Declared → Program → Form → Step
effect n D P (state_form w) = adds (declare D (state_form w)) P
effect n D P (rel_form w k) = adds (declare D (rel_form w k)) P
effect n D P (rule_form h b) = adds D (P ++ clause D n (rule_form h b))
effect n D P (new_form l b) = adds D (P ++ clause D n (new_form l b))
effect n D P (next_form x p m b) = adds D (P ++ clause D n (next_form x p m b))
effect n D P (ask_form qs) = asks (accepted D P (question_of D qs))

-- rows 2 and 3, then the others
unfoldable pub step : ℕ → Declared → Program → Judged → Step
step n D P (bad r) = wrong r
step n D P (good f) = if fault D (length P) f == 0 then effect n D P f else wrong (fault D (length P) f)

-- after `ask` on line n: row 10, "a line after `ask` (that line)"
unfoldable pub finish : ℕ → Outcome → List Line → Outcome
finish n o [] = o
finish n o (l ∷ ls) = refused 10 (suc n)

-- the lines from line n on; row 10, "or none at the end (last line + 1)"
unfoldable pub read_lines : ℕ → Declared → Program → List Line → Outcome
read_lines n D P [] = refused 10 n
read_lines n D P (l ∷ ls) = elim (step n D P (judge l)) [ wrong r ↦ refused r n | adds E R ↦ read_lines (suc n) E R ls | asks o ↦ finish n o ls ]

-- THE ANSWER TO A TEXT: row 1, "no bytes, or over 16,384"; "then line by line"
unfoldable pub outcome : List ℕ → Outcome
outcome text = if length text == 0 || nat_lt limit.text (length text) then refused 1 0 else read_lines 1 [] [] (lines text)
