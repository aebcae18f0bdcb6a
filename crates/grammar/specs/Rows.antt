-- THE TABLE'S ROWS 4 TO 9 AND 11, for a line that has a shape. "In a line .. 4 to 9 by number, 11": a line gets its lowest number; 0 stands for none.
use Rattle.std.specs.Prelude.{Bool, true, false, if◌then◌else◌, not, ◌&&◌, ◌||◌, List, [], ◌∷◌, ◌++◌, ℕ, ◌+◌, min, ◌==◌, nat_le, nat_lt, length}
use Rattle.std.proofs.Math.Option.{Option, none, some}
use Rattle.limits.specs.Limits as limit
use Rattle.grammar.specs.Bytes.{Word}
use Rattle.grammar.specs.Forms.{Literal, plain, negated, Form, state_form, rel_form, rule_form, new_form, next_form, ask_form, all}
use Rattle.grammar.specs.Declarations.{is_state, arity_of, Declared, lookup, count, member, extend, variables, supports, stands, all_variables}

-- the lower of two numbers, 0 standing for none
unfoldable pub lower : ℕ → ℕ → ℕ
lower a b = if a == 0 then b else (if b == 0 then a else min a b)

-- the row's number where it applies
abbrev pub row : ℕ → Bool → ℕ
row n applies = if applies then n else 0

-- row 4, "one declaration or clause too many": up to 24 states; 16 relations, of them 6 with n = 2; 64 clauses
abbrev pub many_states : Declared → Bool
many_states D = nat_le limit.states (count 0 D)

abbrev pub many_relations : Declared → ℕ → Bool
many_relations D n = nat_le limit.rels (count 1 D + count 2 D + count 3 D) || n == 2 && nat_le limit.pairs (count 3 D)

abbrev pub many_clauses : ℕ → Bool
many_clauses clauses = nat_le limit.clauses clauses

-- row 5, "a name declared again"
abbrev pub again : Option ℕ → Bool
again none = false
again (some c) = true

-- a name of a list: row 6, "undeclared, or of the wrong kind there"
abbrev pub name_fault : Option ℕ → ℕ
name_fault none = 6
name_fault (some c) = row 6 (not (is_state c))

unfoldable pub list_fault : Declared → List Word → ℕ
list_fault D [] = 0
list_fault D (w ∷ ws) = lower (name_fault (lookup w D)) (list_fault D ws)

-- a rule's head with n variables: row 6, a derived relation is wanted; row 7, "wrong number of variables"
abbrev pub head_fault : Option ℕ → ℕ → ℕ
head_fault none n = 6
head_fault (some c) n = if is_state c then 6 else row 7 (not (n == arity_of c))

-- a literal with n variables: row 6; row 7; row 8, "`not` before a derived relation"
abbrev pub plain_fault : Option ℕ → ℕ → ℕ
plain_fault none n = 6
plain_fault (some c) n = row 7 (not (n == arity_of c))

abbrev pub negated_fault : Option ℕ → ℕ → ℕ
negated_fault none n = 6
negated_fault (some c) n = if n == arity_of c then row 8 (not (is_state c)) else 7

abbrev pub literal_fault : Declared → Literal → ℕ
literal_fault D (plain a) = plain_fault (lookup a.name D) (length a.variables)
literal_fault D (negated a) = negated_fault (lookup a.name D) (length a.variables)

unfoldable pub body_fault : Declared → List Literal → ℕ
body_fault D [] = 0
body_fault D (l ∷ b) = lower (literal_fault D l) (body_fault D b)

-- row 9 of a clause with the variables hs in its head, and of a stage with none: "a variable only under `not` or only in the head; a fourth variable"
abbrev pub supported : List Word → List Literal → Bool
supported hs b = all (λ x. member x (supports b)) (hs ++ variables b)

abbrev pub few : List Word → List Literal → Bool
few hs b = nat_le (length (extend [] (hs ++ variables b))) limit.variables

abbrev pub scope_fault : List Word → List Literal → ℕ
scope_fault hs b = row 9 (not (supported hs b && few hs b))

-- "one repeated in a rule's head"
abbrev pub repeats : List Word → Bool
repeats [] = false
repeats (x ∷ xs) = member x xs || repeats xs

-- rows 6 to 9 of the stages
unfoldable pub stages_fault : Declared → List (List Literal) → ℕ
stages_fault D [] = 0
stages_fault D (q ∷ qs) = lower (lower (body_fault D q) (scope_fault [] q)) (stages_fault D qs)

-- row 11, variables that stand in two or more stages are carried; document 02, R-5: "Two variables may now be carried; three or more are refused 11"
abbrev pub carried : List (List Literal) → List Word → List Word
carried qs [] = []
carried qs (x ∷ xs) = if nat_le 2 (stands x qs) then x ∷ carried qs xs else carried qs xs

abbrev pub carries_many : List (List Literal) → Bool
carries_many qs = nat_lt limit.carried (length (carried qs (extend [] (all_variables qs))))

-- THE LINE'S NUMBER, after the declarations D and so many clauses
unfoldable pub fault : Declared → ℕ → Form → ℕ
fault D clauses (state_form w) = lower (row 4 (many_states D)) (row 5 (again (lookup w D)))
fault D clauses (rel_form w n) = lower (row 4 (many_relations D n)) (row 5 (again (lookup w D)))
fault D clauses (rule_form h b) =
    lower (row 4 (many_clauses clauses))
    (lower (head_fault (lookup h.name D) (length h.variables))
    (lower (body_fault D b)
    (lower (row 9 (repeats h.variables)) (scope_fault h.variables b))))
fault D clauses (new_form l b) = lower (row 4 (many_clauses clauses)) (lower (list_fault D l) (lower (body_fault D b) (scope_fault [] b)))
fault D clauses (next_form x p m b) =
    lower (row 4 (many_clauses clauses)) (lower (list_fault D p) (lower (list_fault D m) (lower (body_fault D b) (scope_fault (x ∷ []) b))))
fault D clauses (ask_form qs) = lower (stages_fault D qs) (row 11 (carries_many qs))
