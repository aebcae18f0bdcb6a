-- SOUND MODELS: what the table's rows leave of an accepted text, so that no later call checks it again.
use Rattle.std.specs.Prelude.{◌≡◌, ◌≢◌, true, List, [], ◌∷◌, ◌++◌, ℕ, suc, ◌+◌, ◌^◌, ◌≤◌, ◌<◌, length, take, slice_index_or}
use Rattle.limits.specs.Limits as limit
use Rattle.semantics.specs.Models.{elem, Literal, is, isnt, fact, Body, Line, rule, new, next, other, Program, Question, vars, firsts, names, standing, carriers, SafeLine, Safe, SafeQuestion}
use Rattle.model.specs.Records.{up_from}
use Rattle.model.specs.WellFormed.{index_of, Numbered}
use Rattle.grammar.specs.Bytes.{Word, is_name}
use Rattle.grammar.specs.Declarations.{class, Declared, count}

-- each element of the list is so
abbrev pub Each : {A : Type 0} → (A → Type 0) → List A → Type 0
Each R [] = Unit {0}
Each R (x ∷ xs) = R x × Each R xs

-- DECLARATIONS. Declared name i, from 0, and its relation code
abbrev pub name_at : Declared → ℕ → Word
name_at D i = (slice_index_or D i ([], 0)).0

abbrev pub code_at : Declared → ℕ → ℕ
code_at D i = (slice_index_or D i ([], 0)).1

pub record GoodDeclarations (D : Declared) : Type 0 where
  -- they are names, and none is declared again
  pub names : (i : ℕ) → i < length D → is_name (name_at D i) ≡ true
  pub different : (i j : ℕ) → i < j → j < length D → name_at D i ≢ name_at D j
  -- each has the next index of its class
  pub order : (i : ℕ) → i < length D → (class (code_at D i) < 4) × (index_of (code_at D i) ≡ count (class (code_at D i)) (take i D))
  -- "up to 24" states, "at most 16" derived relations, "of them at most 6 with n = 2"
  pub most : length D ≤ limit.declared
  pub states : count 0 D ≤ limit.states
  pub derived : count 1 D + count 2 D + count 3 D ≤ limit.rels
  pub pairs : count 3 D ≤ limit.pairs

-- a declared state relation, and a declared derived relation of n variables
abbrev pub DeclaredState : Declared → ℕ → Type 0
DeclaredState D a = a < count 0 D

abbrev pub DeclaredRelation : Declared → ℕ → ℕ → Type 0
DeclaredRelation D r n = (n ≤ 2) × (class r ≡ suc n) × (index_of r < count (suc n) D)

-- a set of declared state relations
abbrev pub DeclaredSet : Declared → ℕ → Type 0
DeclaredSet D s = s < 2 ^ count 0 D

-- BODIES have at most 8 literals, of declared relations, each with as many variables as its relation takes
abbrev pub GoodLiteral : Declared → Literal → Type 0
GoodLiteral D (is a x) = DeclaredState D a
GoodLiteral D (isnt a x) = DeclaredState D a
GoodLiteral D (fact r xs) = DeclaredRelation D r (length xs)

pub record GoodBody (D : Declared) (b : Body) : Type 0 where
  pub short : length b ≤ limit.body
  pub literals : Each (GoodLiteral D) b

-- VARIABLES as they stand in a line are numbered from 0 by first appearance, and there are at most n of them
pub record InOrder (n : ℕ) (xs : List ℕ) : Type 0 where
  pub numbered : Numbered xs (length (firsts [] xs))
  pub few : length (firsts [] xs) ≤ n

-- CLAUSES. The variables of "a rule's head and a `next` line's variable", which are numbered first, and the body
abbrev pub head_of : Line → List ℕ
head_of (rule r xs b) = xs
head_of (new s b) = []
head_of (next x plus minus b) = x ∷ []
head_of other = []

abbrev pub body_of : Line → Body
body_of (rule r xs b) = b
body_of (new s b) = b
body_of (next x plus minus b) = b
body_of other = []

-- a rule's head is of a derived relation with variables 0, 1 .. in order; a `next` line's variable is 0; the lists are of state relations
abbrev pub GoodHead : Declared → Line → Type 0
GoodHead D (rule r xs b) = DeclaredRelation D r (length xs) × (xs ≡ up_from 0 (length xs))
GoodHead D (new s b) = DeclaredSet D s
GoodHead D (next x plus minus b) = (x ≡ 0) × DeclaredSet D plus × DeclaredSet D minus
GoodHead D other = ⊥

-- a clause on one of the lines 1 .. n - 1
pub record GoodClause (n : ℕ) (D : Declared) (c : ℕ × Line) : Type 0 where
  pub first : 1 ≤ c.0
  pub last : c.0 < n
  pub head : GoodHead D c.1
  pub body : GoodBody D (body_of c.1)
  -- "a line's body with its head .. has at most 3 variables"
  pub variables : InOrder limit.variables (head_of c.1 ++ vars (body_of c.1))
  pub safe : SafeLine c.1

abbrev pub line_at : Program → ℕ → ℕ
line_at P i = (slice_index_or P i (0, other)).0

-- THE LINES before line n: declarations, and at most 64 clauses in the order of their lines
pub record GoodLines (n : ℕ) (D : Declared) (P : Program) : Type 0 where
  pub declarations : GoodDeclarations D
  pub clauses : length P ≤ limit.clauses
  pub clause : Each (GoodClause n D) P
  pub rising : (i j : ℕ) → i < j → j < length P → line_at P i < line_at P j

-- THE QUESTION. A stage of "1 to 8 literals" has at most 3 variables; those of the `ask` line are numbered below 12
pub record GoodStage (D : Declared) (q : Body) : Type 0 where
  pub some : 1 ≤ length q
  pub body : GoodBody D q
  pub few : length (names q) ≤ limit.variables
  pub small : (x : ℕ) → elem x (vars q) ≡ true → x < limit.asked

pub record GoodQuestion (D : Declared) (Q : Question) : Type 0 where
  -- "1 to 4 stages"
  pub one : 1 ≤ length Q
  pub stages : length Q ≤ limit.stages
  pub stage : Each (GoodStage D) Q
  pub variables : InOrder limit.asked (standing Q)
  pub safe : SafeQuestion Q
  -- document 02, R-5: "three or more are refused 11"
  pub carries : length (carriers Q) ≤ limit.carried

-- A SOUND MODEL of a text of n lines, the last of which is `ask`
pub record Sound (n : ℕ) (D : Declared) (P : Program) (Q : Question) : Type 0 where
  pub most : n ≤ limit.text
  pub lines : GoodLines n D P
  pub safe : Safe P
  pub question : GoodQuestion D Q
