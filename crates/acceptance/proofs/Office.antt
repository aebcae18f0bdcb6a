-- Document 01's office model, with its question of two stages: its text is accepted, and its record represents it.
use mathlib.Core.Path.{◌≡◌, refl}
use mathlib.Core.List.{List, [], ◌∷◌}
use Prim.Native.Nat.{ℕ, zero, suc, ◌<◌}
use native.Mathlib.Omega.{arith}
use Rattle.semantics.specs.Labels.{set_of, union}
use Rattle.semantics.specs.Models.{is, isnt, fact, rule, new, next, Program, Question, firsts, shared}
use Rattle.model.specs.Literals.{literal_of, decoded}
use Rattle.model.specs.Records.{clause_at, stage_at}
use Rattle.model.specs.WellFormed.{WellFormed}
use Rattle.model.proofs.Office.{office, program, question}
use Rattle.grammar.specs.Bytes.{bytes, alphanumeric, allowed, is_name}
use Rattle.grammar.specs.Shapes as shapes
use Rattle.grammar.specs.Declarations.{Declared, lookup, count, extend, place, variables, supports, stands, all_variables}
use Rattle.grammar.specs.Rows.{lower, list_fault, body_fault, stages_fault, fault}
use Rattle.grammar.specs.Models.{declare, clause}
use Rattle.grammar.specs.Texts.{accepted, judge, effect, step, finish, read_lines, outcome}
use Rattle.acceptance.specs.Represents.{HoldsClause, HoldsStage, Represents}
use Rattle.acceptance.proofs.WellFormed.{accepted-well-formed}

abbrev text : List ℕ
text = bytes "(state Admin)\n(state User)\n(rel Control 1)\n(new (Admin))\n(new (User))\n(next x (Admin) () (User x) (Admin y))\n(rule (Control x) (Admin x))\n(ask ((User x) (not (Admin x))) ((Control x)))\n"

abbrev D : Declared
D = (bytes "Admin", 0) ∷ (bytes "User", 1) ∷ (bytes "Control", 64) ∷ []

abbrev P : Program
P = (4, new 1 []) ∷ (5, new 2 []) ∷ (6, next 0 1 0 (is 1 0 ∷ is 0 1 ∷ [])) ∷ (7, rule 64 (0 ∷ []) (is 0 0 ∷ [])) ∷ []

abbrev Q : Question
Q = (is 1 0 ∷ isnt 0 0 ∷ []) ∷ (fact 64 (0 ∷ []) ∷ []) ∷ []

pub office-accepted : outcome text ≡ accepted D P Q
unfolding set_of union alphanumeric allowed is_name shapes.name shapes.rest shapes.bracket shapes.atom shapes.literal shapes.list shapes.body shapes.stage shapes.state_rest shapes.rel_rest shapes.rule_rest shapes.new_rest shapes.next_rest shapes.ask_rest shapes.line shapes.form_of lookup count extend place variables supports stands all_variables lower list_fault body_fault stages_fault fault declare clause judge effect step finish read_lines outcome
office-accepted = refl

held-clause : (i : ℕ) → i < 4 → HoldsClause office (clause_at office i)
unfolding literal_of decoded firsts
held-clause zero h = record { within = omega arith; numbered = refl }
held-clause (suc zero) h = record { within = omega arith; numbered = refl }
held-clause (suc (suc zero)) h = record { within = omega arith; numbered = refl }
held-clause (suc (suc (suc zero))) h = record { within = omega arith; numbered = refl }
held-clause (suc (suc (suc (suc i)))) h = absurd (omega arith)

held_stage : (i : ℕ) → i < 2 → HoldsStage office (stage_at office i)
unfolding literal_of decoded firsts
held_stage zero h = record { within = omega arith; few = omega arith; numbered = refl; numbers = refl; room = refl }
held_stage (suc zero) h = record { within = omega arith; few = omega arith; numbered = refl; numbers = refl; room = refl }
held_stage (suc (suc i)) h = absurd (omega arith)

pub represented : Represents 8 D P Q office
unfolding shared firsts
represented = record {
  declared = refl;
  relations = refl;
  clauses = refl;
  program = program;
  clause = held-clause;
  stages = refl;
  question = question;
  stage = held_stage;
  carried = refl;
  lines = refl;
  literalcount = omega arith;
  codes = refl;
  row = refl;
  literals = refl;
  asked = refl;
}

pub office-well-formed : WellFormed office
office-well-formed = accepted-well-formed text D P Q office office-accepted represented
