-- Every starred case is true: the answer to each text is computed.
use mathlib.Core.Path.{refl}
use Rattle.semantics.specs.Labels.{union, set_of}
use Rattle.semantics.proofs.Cases.{prevented-true, promoted-true, removed-true, uncreated-true, again-true, forth-true, unreturned-true, another-true, pair-true}
use Rattle.grammar.specs.Bytes.{alphanumeric, allowed, is_name}
use Rattle.grammar.specs.Shapes.{name, rest, bracket, atom, literal, list, body, stage, state_rest, rel_rest, rule_rest, new_rest, next_rest, ask_rest, line, form_of}
use Rattle.grammar.specs.Declarations.{lookup, count, extend, place, variables, supports, stands, all_variables}
use Rattle.grammar.specs.Rows.{lower, list_fault, body_fault, stages_fault, fault}
use Rattle.grammar.specs.Models.{declare, clause}
use Rattle.grammar.specs.Texts.{judge, effect, step, finish, read_lines, outcome}
use Rattle.starred.specs.Starred.{AllTrue, starred}

pub all_true : AllTrue starred
unfolding union set_of alphanumeric allowed is_name name rest bracket atom literal list body stage state_rest rel_rest rule_rest new_rest next_rest ask_rest line form_of lookup count extend place variables supports stands all_variables lower list_fault body_fault stages_fault fault declare clause judge effect step finish read_lines outcome
all_true = (
  refl,
  (
    (refl, prevented-true),
    (
      (refl, promoted-true),
      (
        (refl, removed-true),
        (
          (refl, uncreated-true),
          (
            (refl, again-true),
            (
              (refl, forth-true),
              (
                (refl, unreturned-true),
                (
                  (refl, another-true),
                  (
                    (refl, pair-true),
                    tt,
                  ),
                ),
              ),
            ),
          ),
        ),
      ),
    ),
  ),
)
