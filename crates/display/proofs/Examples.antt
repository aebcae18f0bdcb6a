-- WORKED EXAMPLES, computed from the definitions.
use mathlib.Core.Path.{◌≡◌, refl}
use mathlib.Core.Option.{none, some}
use Rattle.grammar.specs.Bytes.{bytes, alphanumeric, allowed, is_name}
use Rattle.grammar.specs.Shapes.{name, rest, bracket, atom, literal, list, body, stage, state_rest, rel_rest, rule_rest, new_rest, next_rest, ask_rest, line, form_of}
use Rattle.grammar.specs.Declarations.{lookup, count, extend, place, variables, supports, stands, all_variables}
use Rattle.grammar.specs.Rows.{lower, list_fault, body_fault, stages_fault, fault}
use Rattle.grammar.specs.Models.{declare, clause}
use Rattle.grammar.specs.Texts.{judge, effect, step, finish, read_lines, outcome}
use Rattle.display_parts.specs.Parts.{part_of}
use Rattle.display.specs.Shown.{relation_at, literal_at, variable_at}

-- the second literal of a rule, without its head
pub second-literal : literal_at (bytes "(rule (Pays x y) (Owes x y) (not (Paid y)))") 0 1 ≡ some (bytes "(not (Paid y))")
unfolding part_of form_of line rule_rest body atom literal rest name is_name alphanumeric
second-literal = refl

-- a rule has no third one here, and no stage
pub no-literal : literal_at (bytes "(rule (Pays x y) (Owes x y) (not (Paid y)))") 0 2 ≡ none
unfolding part_of form_of line rule_rest body atom literal rest name is_name alphanumeric
no-literal = refl

-- the head's variables come first
pub head_first : variable_at (bytes "(rule (Pays y x) (Owes x y) (Owes z x))") 0 0 ≡ some (bytes "y")
unfolding part_of form_of line rule_rest body atom literal rest name is_name alphanumeric extend variables
head_first = refl

pub third-variable : variable_at (bytes "(rule (Pays y x) (Owes x y) (Owes z x))") 0 2 ≡ some (bytes "z")
unfolding part_of form_of line rule_rest body atom literal rest name is_name alphanumeric extend variables
third-variable = refl

-- a `next` line's own variable is its first, and the names of its lists are none
pub own-variable : variable_at (bytes "(next x (A B) (C) (A y) (B x))") 0 1 ≡ some (bytes "y")
unfolding part_of form_of line next_rest list bracket body atom literal rest name is_name alphanumeric extend variables
own-variable = refl

-- the second stage has its own order
pub stage-variable : variable_at (bytes "(ask ((A x)) ((B z) (A x)))") 2 0 ≡ some (bytes "z")
unfolding part_of form_of line ask_rest stage bracket atom literal rest name is_name alphanumeric extend variables
stage-variable = refl

-- the second relation of a text
pub second-relation : relation_at (outcome (bytes "(state A)\n(rel Near 2)\n(ask ((A x)))\n")) 1 ≡ some (bytes "Near", 96)
unfolding alphanumeric allowed is_name name rest bracket atom literal list body stage state_rest rel_rest rule_rest new_rest next_rest ask_rest line form_of lookup count extend place variables supports stands all_variables lower list_fault body_fault stages_fault fault declare clause judge effect step finish read_lines outcome
second-relation = refl
