-- THE PARTS OF A LINE: the clause of a `rule`, `new` or `next` line is part 0, the stages of an `ask` line are parts 1 and on.
use Rattle.std.specs.Prelude.{if◌then◌else◌, List, [], ◌∷◌, ℕ, ◌-◌, ◌==◌}
use Rattle.std.proofs.Math.Option.{Option, none, some}
use Rattle.grammar.specs.Bytes.{Word}
use Rattle.grammar.specs.Forms.{Literal, Form, state_form, rel_form, rule_form, new_form, next_form, ask_form}
use Rattle.grammar.specs.Shapes.{◌>>=◌, form_of}
use Rattle.display_shapes.specs.Rows.{pick}

-- a part: the variables of "a rule's head or a `next` line's variable", which are numbered first, and the body
abbrev pub Part : Type 0
Part = List Word × List Literal

-- the part of a clause, and of a stage
abbrev pub clause_of : List Word → List Literal → ℕ → Option Part
clause_of hs b n = if n == 0 then some (hs, b) else none

abbrev pub stage_of : List (List Literal) → ℕ → Option Part
stage_of qs n = if n == 0 then none else (pick qs (n - 1) >>= λ q. some ([], q))

-- part n of a form
abbrev pub part_in : Form → ℕ → Option Part
part_in (state_form w) n = none
part_in (rel_form w k) n = none
part_in (rule_form h b) n = clause_of h.variables b n
part_in (new_form l b) n = clause_of [] b n
part_in (next_form x p m b) n = clause_of (x ∷ []) b n
part_in (ask_form qs) n = stage_of qs n

-- part n of a line, which is given without its byte 10
unfoldable pub part_of : List ℕ → ℕ → Option Part
part_of line n = form_of line >>= λ f. part_in f n
