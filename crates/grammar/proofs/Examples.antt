-- WORKED EXAMPLES of documents 01 and 02, computed from the definitions.
use mathlib.Core.Path.{◌≡◌, refl}
use mathlib.Core.Bool.{Bool, true, ◌&&◌}
use mathlib.Core.List.{List, [], ◌∷◌}
use Prim.Native.Nat.{ℕ}
use Prim.Native.String.{String}
use lib.Dec.{eqb}
use Rattle.semantics.specs.Labels.{set_of}
use Rattle.semantics.specs.Models as meaning
use Rattle.grammar.specs.Bytes.{bytes, alphanumeric, allowed, is_name}
use Rattle.grammar.specs.Shapes.{name, rest, bracket, atom, literal, list, body, stage, state_rest, rel_rest, rule_rest, new_rest, next_rest, ask_rest, line, form_of}
use Rattle.grammar.specs.Declarations.{lookup, count, extend, place, variables, supports, stands, all_variables}
use Rattle.grammar.specs.Rows.{lower, list_fault, body_fault, stages_fault, fault}
use Rattle.grammar.specs.Models.{declare, clause}
use Rattle.grammar.specs.Texts.{Outcome, accepted, refused, judge, effect, step, finish, read_lines, outcome}

-- a text with its refusal's number and line, 0 and 0 where it is accepted
abbrev pub Example : Type 0
Example = String × ℕ × ℕ

abbrev pub answers : Outcome → ℕ → ℕ → Bool
answers (accepted D P Q) n l = eqb n 0 && eqb l 0
answers (refused m k) n l = eqb m n && eqb k l

abbrev pub right : List Example → Bool
right [] = true
right (e ∷ es) = answers (outcome (bytes e.0)) e.1 e.2 && right es

-- the small examples of the table, rows 1 to 11, row 11 as document 02 (R-5) has it
unfoldable pub examples : List Example
examples =
    ("", 1, 0) ∷
    ("(state A!)\n", 2, 1) ∷
    ("(state  A)\n", 3, 1) ∷
    ("(state A)\n(state B)\n(state C)\n(state D)\n(state E)\n(state F)\n(state G)\n(state H)\n(state I)\n(state J)\n(state K)\n(state L)\n(state M)\n(state N)\n(state O)\n(state P)\n(state Q)\n(state R)\n(state S)\n(state T)\n(state U)\n(state V)\n(state W)\n(state X)\n(state Y)\n", 4, 25) ∷
    ("(state A)\n(state A)\n", 5, 2) ∷
    ("(new (A))\n", 6, 1) ∷
    ("(state A)\n(rel R 1)\n(rule (R x y) (A x) (A y))\n", 7, 3) ∷
    ("(state A)\n(rel R 1)\n(ask ((A x) (not (R x))))\n", 8, 3) ∷
    ("(state A)\n(rel R 1)\n(rule (R x) (A y))\n", 9, 3) ∷
    ("(state A)\n", 10, 2) ∷
    ("(state A)\n(rel W 2)\n(ask ((W x y) (A z)) ((W x y) (A z)))\n", 11, 3) ∷
    ("(rel W 2)\n(ask ((W x y)) ((W x y)))\n", 0, 0) ∷
    ("(state A)\n(ask ((A x)))\n!", 10, 3) ∷
    ("(state A)\n(ask ((A x)))", 2, 2) ∷
    ("(state abcdefghijklmnop)\n(ask ((abcdefghijklmnop x)))\n", 0, 0) ∷
    ("(state abcdefghijklmnopq)\n", 3, 1) ∷
    ("(state A)\n(rel R 1)\n(rule (R x) (R x x) (Z x))\n", 6, 3) ∷
    ("(state A)\n(new () (not (A x)))\n", 9, 2) ∷
    ("(rel W 2)\n(new () (W x y) (W z u))\n", 9, 2) ∷
    []

pub table : right examples ≡ true
unfolding examples alphanumeric allowed is_name name rest bracket atom literal list body stage state_rest rel_rest rule_rest new_rest next_rest ask_rest line form_of lookup count extend place variables supports stands all_variables lower list_fault body_fault stages_fault fault declare clause judge effect step finish read_lines outcome
table = refl

-- the text of document 01's listing, and the model that it says: Admin and User have codes 0 and 1, Control has code 64
unfoldable pub listing : List ℕ
listing = bytes "(state Admin)\n(state User)\n(rel Control 1)\n(new (Admin))\n(new (User))\n(next x (Admin) () (User x) (Admin y))\n(rule (Control x) (Admin x))\n(ask ((User x) (not (Admin x)) (Control x)))\n"

pub listing-accepted : outcome listing ≡ accepted
    ((bytes "Admin", 0) ∷ (bytes "User", 1) ∷ (bytes "Control", 64) ∷ [])
    ((4, meaning.new (set_of (0 ∷ [])) []) ∷
    (5, meaning.new (set_of (1 ∷ [])) []) ∷
    (6, meaning.next 0 (set_of (0 ∷ [])) (set_of []) (meaning.is 1 0 ∷ meaning.is 0 1 ∷ [])) ∷
    (7, meaning.rule 64 (0 ∷ []) (meaning.is 0 0 ∷ [])) ∷ [])
    ((meaning.is 1 0 ∷ meaning.isnt 0 0 ∷ meaning.fact 64 (0 ∷ []) ∷ []) ∷ [])
unfolding listing alphanumeric allowed is_name name rest bracket atom literal list body stage state_rest rel_rest rule_rest new_rest next_rest ask_rest line form_of lookup count extend place variables supports stands all_variables lower list_fault body_fault stages_fault fault declare clause judge effect step finish read_lines outcome
listing-accepted = refl
