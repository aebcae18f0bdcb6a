-- FORMS: what a line of the bracket text says, as a tree with names as words; and how each is written.
use Rattle.std.specs.Prelude.{Bool, true, ◌&&◌, List, [], ◌∷◌, ◌++◌, ℕ, ◌+◌, nat_le, nat_lt, length}
use Rattle.limits.specs.Limits as limit
use Rattle.grammar.specs.Bytes.{bytes, Word, is_name}

-- `(R x ..)`: a relation's name and its variables
pub record Atom : Type 0 where
  pub name : Word
  pub variables : List Word

-- "a LITERAL L is `(R x ..)` or `(not (A x))`"; how many variables it has is no matter of shape
pub data Literal : Type 0 where
  plain negated : Atom → Literal

-- a FORM: "one form a line"
pub data Form : Type 0 where
  state_form : Word → Form
  rel_form : Word → ℕ → Form
  rule_form : Atom → List Literal → Form
  new_form : List Word → List Literal → Form
  next_form : Word → List Word → List Word → List Literal → Form
  ask_form : List (List Literal) → Form

-- HOW FORMS ARE WRITTEN. "Items in a bracket are parted by exactly one space; none stands elsewhere."
-- items that follow others in a bracket, up to its end
abbrev pub print_rest : {A : Type 0} → (A → List ℕ) → List A → List ℕ
print_rest print [] = bytes ")"
print_rest print (x ∷ xs) = bytes " " ++ (print x ++ print_rest print xs)

-- a bracket of items
abbrev pub print_bracket : {A : Type 0} → (A → List ℕ) → List A → List ℕ
print_bracket print [] = bytes "()"
print_bracket print (x ∷ xs) = bytes "(" ++ (print x ++ print_rest print xs)

abbrev pub print_word : Word → List ℕ
print_word w = w

abbrev pub print_atom : Atom → List ℕ
print_atom a = print_bracket print_word (a.name ∷ a.variables)

abbrev pub print_literal : Literal → List ℕ
print_literal (plain a) = print_atom a
print_literal (negated a) = bytes "(not " ++ (print_atom a ++ bytes ")")

abbrev pub print_arity : ℕ → List ℕ
print_arity n = (n + 48) ∷ []

-- the line without its byte 10
abbrev pub print : Form → List ℕ
print (state_form w) = bytes "(state " ++ (w ++ bytes ")")
print (rel_form w n) = bytes "(rel " ++ (w ++ (bytes " " ++ (print_arity n ++ bytes ")")))
print (rule_form h b) = bytes "(rule " ++ (print_atom h ++ print_rest print_literal b)
print (new_form l b) = bytes "(new " ++ (print_bracket print_word l ++ print_rest print_literal b)
print (next_form x p m b) = bytes "(next " ++ (x ++ (bytes " " ++ (print_bracket print_word p ++ (bytes " " ++ (print_bracket print_word m ++ print_rest print_literal b)))))
print (ask_form []) = bytes "(ask)"
print (ask_form (q ∷ qs)) = bytes "(ask " ++ (print_bracket print_literal q ++ print_rest (print_bracket print_literal) qs)

-- THE LIMITS of a shape
abbrev pub all : {A : Type 0} → (A → Bool) → List A → Bool
all p [] = true
all p (x ∷ xs) = p x && all p xs

abbrev pub proper_atom : Atom → Bool
proper_atom a = is_name a.name && all is_name a.variables

abbrev pub proper_literal : Literal → Bool
proper_literal (plain a) = proper_atom a
proper_literal (negated a) = proper_atom a

-- document 02, R-6: "lists of up to 24 names"
abbrev pub proper_list : List Word → Bool
proper_list l = all is_name l && nat_le (length l) limit.list

-- "a body 0 to 8 literals"
abbrev pub proper_body : List Literal → Bool
proper_body b = all proper_literal b && nat_le (length b) limit.body

-- a stage has "1 to 8 literals"
abbrev pub proper_stage : List Literal → Bool
proper_stage q = proper_body q && nat_lt 0 (length q)

-- the form keeps the limits: "`n` being 0, 1 or 2", "1 to 4 stages"
abbrev pub proper : Form → Bool
proper (state_form w) = is_name w
proper (rel_form w n) = is_name w && nat_le n 2
proper (rule_form h b) = proper_atom h && proper_body b
proper (new_form l b) = proper_list l && proper_body b
proper (next_form x p m b) = is_name x && proper_list p && proper_list m && proper_body b
proper (ask_form qs) = all proper_stage qs && nat_lt 0 (length qs) && nat_le (length qs) limit.stages
