-- DECLARATIONS: the declared relations and their codes, and the variables of a line.
use Rattle.std.specs.Prelude.{Bool, false, if◌then◌else◌, ◌||◌, List, [], ◌∷◌, ◌++◌, ℕ, suc, ◌+◌, ◌*◌, ◌/◌, ◌-◌, ◌==◌, nat_lt}
use Rattle.std.proofs.Math.Option.{Option, none, some}
use Rattle.grammar.specs.Bytes.{Word, same}
use Rattle.grammar.specs.Forms.{Literal, plain, negated}

-- RELATION CODES. The a-th state relation (from 0) has code a, the k-th derived relation of arity n has code 32 × (n + 1) + k.
abbrev pub class : ℕ → ℕ
class c = c / 32

abbrev pub is_state : ℕ → Bool
is_state c = nat_lt c 32

-- how many variables the relation takes, a state relation one
abbrev pub arity_of : ℕ → ℕ
arity_of c = if is_state c then 1 else class c - 1

-- "names are DECLARED on an earlier line and share one name space": the names in order, each with its code
abbrev pub Declared : Type 0
Declared = List (Word × ℕ)

-- the code of a declared name
unfoldable pub lookup : Word → Declared → Option ℕ
lookup w [] = none
lookup w (d ∷ D) = if same w d.0 then some d.1 else lookup w D

-- how many relations of a class are declared
unfoldable pub count : ℕ → Declared → ℕ
count k [] = 0
count k (d ∷ D) = if class d.1 == k then suc (count k D) else count k D

-- the code of the next state relation, and of the next derived relation of arity n
abbrev pub state_code : Declared → ℕ
state_code D = count 0 D

abbrev pub rel_code : Declared → ℕ → ℕ
rel_code D n = 32 * (n + 1) + count (n + 1) D

-- VARIABLES
abbrev pub member : Word → List Word → Bool
member x [] = false
member x (y ∷ ys) = same x y || member x ys

-- the variables seen so far and those of xs, each once, "in order of first appearance"
unfoldable pub extend : List Word → List Word → List Word
extend seen [] = seen
extend seen (x ∷ xs) = extend (if member x seen then seen else seen ++ (x ∷ [])) xs

-- the number of a variable among those seen
unfoldable pub place : List Word → Word → ℕ
place [] x = 0
place (y ∷ ys) x = if same x y then 0 else suc (place ys x)

abbrev pub variables_of : Literal → List Word
variables_of (plain a) = a.variables
variables_of (negated a) = a.variables

-- the variables of a body, and those that stand "in a literal without `not`"
unfoldable pub variables : List Literal → List Word
variables [] = []
variables (l ∷ b) = variables_of l ++ variables b

abbrev pub supports_of : Literal → List Word
supports_of (plain a) = a.variables
supports_of (negated a) = []

unfoldable pub supports : List Literal → List Word
supports [] = []
supports (l ∷ b) = supports_of l ++ supports b

-- in how many stages a variable stands
unfoldable pub stands : Word → List (List Literal) → ℕ
stands x [] = 0
stands x (q ∷ qs) = if member x (variables q) then suc (stands x qs) else stands x qs

-- the variables of all stages
unfoldable pub all_variables : List (List Literal) → List Word
all_variables [] = []
all_variables (q ∷ qs) = variables q ++ all_variables qs
