-- THE RECORD OF AN ACCEPTED TEXT: what a model record has to do with the declarations, the program and the question that the text says.
use Rattle.std.specs.Prelude.{◌≡◌, List, ◌++◌, map, ℕ, ◌+◌, ◌≤◌, ◌<◌, length, take}
use Rattle.limits.specs.Limits as limit
use Rattle.semantics.specs.Models.{Program, Question, vars, names, carriers}
use Rattle.model.specs.declared.Clause.{Clause}
use Rattle.model.specs.declared.Stage.{Stage}
use Rattle.model.specs.declared.Model.{Model}
use Rattle.model.specs.Records.{head_of, clause_body, stage_body, stage_of, program_of, question_of, clause_at, stage_at, padded}
use Rattle.model.specs.WellFormed.{Numbered}
use Rattle.grammar.specs.Declarations.{Declared}

-- the codes of the declared relations, in order
abbrev pub codes_of : Declared → List ℕ
codes_of D = map (λ d. d.1) D

-- a clause's part of the literal row, and the number of its variables
pub record HoldsClause (m : Model) (c : Clause) : Type 0 where
  pub within : c.first + c.count ≤ m.literalcount
  pub numbered : Numbered (head_of c.action ++ vars (clause_body m.literals c)) c.variables

-- a stage's part of the literal row, the number of its variables, and their numbers in the `ask` line in order of first appearance
pub record HoldsStage (m : Model) (s : Stage) : Type 0 where
  pub within : s.first + s.count ≤ m.literalcount
  pub few : s.variables ≤ limit.variables
  pub numbered : Numbered (vars (stage_body m.literals s)) s.variables
  pub numbers : take s.variables s.numbers ≡ names (stage_of m.literals s)
  pub room : length s.numbers ≡ limit.variables

-- the record m of a text of n lines
pub record Represents (n : ℕ) (D : Declared) (P : Program) (Q : Question) (m : Model) : Type 0 where
  pub declared : m.relations.count ≡ length D
  pub relations : take m.relations.count m.relations.codes ≡ codes_of D
  pub clauses : m.clausecount ≡ length P
  pub program : program_of m ≡ P
  pub clause : (i : ℕ) → i < m.clausecount → HoldsClause m (clause_at m i)
  pub stages : m.stagecount ≡ length Q
  pub question : question_of m ≡ Q
  pub stage : (i : ℕ) → i < m.stagecount → HoldsStage m (stage_at m i)
  pub carried : m.carried ≡ padded limit.carried (carriers Q)
  pub lines : m.lines ≡ n
  -- the sizes of the rows
  pub literalcount : m.literalcount ≤ limit.literals
  pub codes : length m.relations.codes ≡ limit.declared
  pub row : length m.clauses ≡ limit.clauses
  pub literals : length m.literals ≡ limit.literals
  pub asked : length m.stages ≡ limit.stages
