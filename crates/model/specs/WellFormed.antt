-- WELL-FORMED MODELS: what acceptance guarantees of a model record, so that no later call checks it again.
use Rattle.std.specs.Prelude.{◌≡◌, if◌then◌else◌, List, [], ◌∷◌, ◌++◌, ℕ, suc, ◌+◌, ◌/◌, ◌%◌, ◌^◌, ◌≤◌, ◌<◌, ◌==◌, length, take, slice_index}
use Rattle.limits.specs.Limits as limit
use Rattle.semantics.specs.Models.{vars, firsts, carriers, Safe, SafeQuestion}
use Rattle.model.specs.declared.Action.{Action}
use Rattle.model.specs.declared.Action.TheVariants.{Rule, New, Next}
use Rattle.model.specs.declared.Clause.{Clause}
use Rattle.model.specs.declared.Stage.{Stage}
use Rattle.model.specs.declared.Model.{Model}
use Rattle.model.specs.Literals.{relation_of}
use Rattle.model.specs.Records.{up_from, head_of, clause_body, stage_body, number_in, program_of, question_of, clause_at, stage_at, padded}

-- RELATIONS. The class of a code: 0 of a state relation, n + 1 of a derived relation of arity n; and its index in its class
abbrev pub class_of : ℕ → ℕ
class_of r = r / 32

abbrev pub index_of : ℕ → ℕ
index_of r = r % 32

-- how many of the codes are of class k
abbrev pub in_class : ℕ → List ℕ → ℕ
in_class k [] = 0
in_class k (r ∷ rs) = if class_of r == k then suc (in_class k rs) else in_class k rs

-- how many relations of class k are declared
unfoldable pub declared_in : Model → ℕ → ℕ
declared_in m k = in_class k (take m.relations.count m.relations.codes)

-- the relation is declared: its index is below the number of those declared in its class
abbrev pub Declared : Model → ℕ → Type 0
Declared m r = (class_of r < 4) × (index_of r < declared_in m (class_of r))

-- the relations are declared in order, each with the next index of its class: "up to 24" states, "at most 16" derived, "of them at most 6 with n = 2"
pub record GoodRelations (m : Model) : Type 0 where
  pub count : m.relations.count ≤ limit.declared
  pub states : declared_in m 0 ≤ limit.states
  pub derived : declared_in m 1 + declared_in m 2 + declared_in m 3 ≤ limit.rels
  pub pairs : declared_in m 3 ≤ limit.pairs
  pub order : (i : ℕ) → i < m.relations.count
      → (class_of (slice_index m.relations.codes i) < 4)
      × (index_of (slice_index m.relations.codes i) ≡ in_class (class_of (slice_index m.relations.codes i)) (take i m.relations.codes))

-- VARIABLES are numbered from 0 by first appearance, and there are n of them
abbrev pub Numbered : List ℕ → ℕ → Type 0
Numbered xs n = firsts [] xs ≡ up_from 0 n

-- BODIES: a body of at most 8 literals within the literal row, all of declared relations, and at most 3 variables
pub record GoodPart (m : Model) (first count n : ℕ) : Type 0 where
  pub within : first + count ≤ m.literalcount
  pub short : count ≤ limit.body
  pub few : n ≤ limit.variables
  pub relations : (k : ℕ) → k < count → Declared m (relation_of (slice_index m.literals (first + k)))

-- CLAUSES: a rule's head has as many variables as its relation takes, and a set has declared state relations only
abbrev pub GoodAction : Model → Action → Type 0
GoodAction m (Rule r n) = Declared m r × (class_of r ≡ suc n)
GoodAction m (New s) = s < 2 ^ declared_in m 0
GoodAction m (Next plus minus) = (plus < 2 ^ declared_in m 0) × (minus < 2 ^ declared_in m 0)

pub record GoodClause (m : Model) (c : Clause) : Type 0 where
  pub part : GoodPart m c.first c.count c.variables
  pub numbered : Numbered (head_of c.action ++ vars (clause_body m.literals c)) c.variables
  pub action : GoodAction m c.action
  pub first : 1 ≤ c.line
  pub last : c.line < m.lines

-- STAGES have 1 to 8 literals; their variables have different numbers in the `ask` line
pub record GoodStage (m : Model) (s : Stage) : Type 0 where
  pub part : GoodPart m s.first s.count s.variables
  pub some : 1 ≤ s.count
  pub numbered : Numbered (vars (stage_body m.literals s)) s.variables
  pub different : (x y : ℕ) → x < s.variables → y < s.variables → number_in s x ≡ number_in s y → x ≡ y
  pub small : (x : ℕ) → x < s.variables → number_in s x < limit.asked

pub record WellFormed (m : Model) : Type 0 where
  pub relations : GoodRelations m
  -- "together at most 64" clauses, in the order of their lines
  pub clauses : m.clausecount ≤ limit.clauses
  pub clause : (i : ℕ) → i < m.clausecount → GoodClause m (clause_at m i)
  pub rising : (i j : ℕ) → i < j → j < m.clausecount → (clause_at m i).line < (clause_at m j).line
  pub safe : Safe (program_of m)
  -- "1 to 4 stages"
  pub one : 1 ≤ m.stagecount
  pub stages : m.stagecount ≤ limit.stages
  pub stage : (i : ℕ) → i < m.stagecount → GoodStage m (stage_at m i)
  pub safely : SafeQuestion (question_of m)
  -- document 02, R-5: two variables may be carried, and the record has them in order of first appearance
  pub carries : length (carriers (question_of m)) ≤ limit.carried
  pub carried : m.carried ≡ padded limit.carried (carriers (question_of m))
  -- the sizes of the rows
  pub lines : m.lines ≤ limit.text
  pub literalcount : m.literalcount ≤ limit.literals
  pub codes : length m.relations.codes ≡ limit.declared
  pub row : length m.clauses ≡ limit.clauses
  pub literals : length m.literals ≡ limit.literals
  pub asked : length m.stages ≡ limit.stages
  pub numbers : (i : ℕ) → i < m.stagecount → length (stage_at m i).numbers ≡ limit.variables
