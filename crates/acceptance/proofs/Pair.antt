-- A question of document 02 (R-5) that carries two variables: they come in order of first appearance, although the second is repeated first.
use mathlib.Core.Path.{◌≡◌, refl}
use mathlib.Core.List.{List, [], ◌∷◌}
use Prim.Native.Nat.{ℕ}
use Rattle.semantics.specs.Models.{is, Question, firsts, shared, carriers}
use Rattle.grammar.specs.Bytes.{bytes, alphanumeric, allowed, is_name}
use Rattle.grammar.specs.Shapes as shapes
use Rattle.grammar.specs.Declarations.{Declared, lookup, count, extend, place, variables, supports, stands, all_variables}
use Rattle.grammar.specs.Rows.{lower, list_fault, body_fault, stages_fault, fault}
use Rattle.grammar.specs.Models.{declare, clause}
use Rattle.grammar.specs.Texts.{accepted, judge, effect, step, finish, read_lines, outcome}

abbrev text : List ℕ
text = bytes "(state A)\n(state B)\n(ask ((B z) (A x) (B y)) ((A y)) ((A x)))\n"

abbrev D : Declared
D = (bytes "A", 0) ∷ (bytes "B", 1) ∷ []

abbrev Q : Question
Q = (is 1 0 ∷ is 0 1 ∷ is 1 2 ∷ []) ∷ (is 0 2 ∷ []) ∷ (is 0 1 ∷ []) ∷ []

pub pair-accepted : outcome text ≡ accepted D [] Q
unfolding alphanumeric allowed is_name shapes.name shapes.rest shapes.bracket shapes.atom shapes.literal shapes.list shapes.body shapes.stage shapes.state_rest shapes.rel_rest shapes.rule_rest shapes.new_rest shapes.next_rest shapes.ask_rest shapes.line shapes.form_of lookup count extend place variables supports stands all_variables lower list_fault body_fault stages_fault fault declare clause judge effect step finish read_lines outcome
pair-accepted = refl

pub pair-carried : carriers Q ≡ 1 ∷ 2 ∷ []
unfolding firsts shared
pair-carried = refl
