-- WHAT AN ACCEPTED LINE SAYS, as a part of a spec-level model. A line's variables are numbered from 0 by first appearance, a rule's head or a `next` line's variable first.
use Rattle.std.specs.Prelude.{if◌then◌else◌, List, [], ◌∷◌, ◌++◌, map, ℕ, slice_index}
use Rattle.std.proofs.Math.Option
use Rattle.semantics.specs.Labels.{set_of}
use Rattle.semantics.specs.Models as meaning
use Rattle.grammar.specs.Bytes.{Word}
use Rattle.grammar.specs.Forms.{Literal, plain, negated, Form, state_form, rel_form, rule_form, new_form, next_form, ask_form}
use Rattle.grammar.specs.Declarations.{is_state, Declared, lookup, state_code, rel_code, extend, place, variables, all_variables}

-- the declarations after the line
unfoldable pub declare : Declared → Form → Declared
declare D (state_form w) = D ++ ((w, state_code D) ∷ [])
declare D (rel_form w n) = D ++ ((w, rel_code D n) ∷ [])
declare D (rule_form h b) = D
declare D (new_form l b) = D
declare D (next_form x p m b) = D
declare D (ask_form qs) = D

-- the code of a declared name
abbrev pub code_of : Declared → Word → ℕ
code_of D w = Option.get_or (lookup w D) 0

abbrev pub codes : Declared → List Word → List ℕ
codes D ws = map (code_of D) ws

module _ (D : Declared) (vs : List Word) where
  -- the numbers of variables, where vs are those of the line
  abbrev pub numbers : List Word → List ℕ
  numbers xs = map (place vs) xs

  abbrev pub literal_of : Literal → meaning.Literal
  literal_of (plain a) =
      if is_state (code_of D a.name)
      then meaning.is (code_of D a.name) (slice_index (numbers a.variables) 0)
      else meaning.fact (code_of D a.name) (numbers a.variables)
  literal_of (negated a) = meaning.isnt (code_of D a.name) (slice_index (numbers a.variables) 0)

  abbrev pub body_of : List Literal → meaning.Body
  body_of b = map literal_of b

-- the clause that the line adds to the program, with the line's number
unfoldable pub clause : Declared → ℕ → Form → meaning.Program
clause D n (state_form w) = []
clause D n (rel_form w k) = []
clause D n (rule_form h b) =
    let vs = extend [] (h.variables ++ variables b) in
    (n, meaning.rule (code_of D h.name) (numbers D vs h.variables) (body_of D vs b)) ∷ []
clause D n (new_form l b) = (n, meaning.new (set_of (codes D l)) (body_of D (extend [] (variables b)) b)) ∷ []
clause D n (next_form x p m b) =
    let vs = extend [] (x ∷ variables b) in
    (n, meaning.next (place vs x) (set_of (codes D p)) (set_of (codes D m)) (body_of D vs b)) ∷ []
clause D n (ask_form qs) = []

-- the stages of the question, their variables numbered over the whole line
abbrev pub question_of : Declared → List (List Literal) → meaning.Question
question_of D qs = map (body_of D (extend [] (all_variables qs))) qs
