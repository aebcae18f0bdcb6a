-- THE RECORD OF A TEXT that ends with its `ask` line represents what the text says.
use mathlib.Core.Path.{◌≡◌, ◌∙◌}
use mathlib.Core.List.{List}
use Prim.Native.Nat.{ℕ, ◌<◌}
use native.Mathlib.Omega.{arith}
use lib.ListN.{length, take}
use Rattle.limits.specs.Limits as limit
use Rattle.semantics.specs.Models.{Program}
use Rattle.model.specs.Records.{program_of, clause_at}
use Rattle.model.specs.declared.Model.{Model}
use Rattle.grammar.specs.Forms.{Literal}
use Rattle.grammar.specs.Declarations.{Declared}
use Rattle.grammar.specs.Models.{question_of}
use Rattle.acceptance.specs.Represents.{codes_of, HoldsClause, Represents}
use Rattle.acceptance.proofs.Growth.{program-kept, held-clause}
use Rattle.text_ask.specs.Asks.{Asks}

-- what the record holds before the `ask` line of a text of n lines
pub record Before (n : ℕ) (D : Declared) (P : Program) (m : Model) : Type 0 where
  pub declared : m.relations.count ≡ length D
  pub relations : take m.relations.count m.relations.codes ≡ codes_of D
  pub clauses : m.clausecount ≡ length P
  pub program : program_of m ≡ P
  pub clause : (i : ℕ) → i < m.clausecount → HoldsClause m (clause_at m i)
  pub lines : m.lines ≡ n
  pub codes : length m.relations.codes ≡ limit.declared
  pub row : length m.clauses ≡ 64

pub represents : {n : ℕ} {D : Declared} {P : Program} {m₀ m : Model} {qs : List (List Literal)} → Before n D P m₀ → Asks D m₀ qs m → Represents n D P (question_of D qs) m
represents {m₀ = m₀} {m} b a = record {
  declared = rw a.relations b.declared;
  relations = rw a.relations b.relations;
  clauses = a.clausecount ∙ b.clauses;
  program = program-kept m₀ m a.keeps b.clause a.clausecount ∙ b.program;
  clause = λ i h. held-clause m₀ m a.keeps b.clause i (let c = a.clausecount in omega arith);
  stages = a.stagecount;
  question = a.question;
  stage = a.stage;
  carried = a.carried;
  lines = a.lines ∙ b.lines;
  literalcount = a.literalcount;
  codes = rw a.relations b.codes;
  row = rw a.clauses b.row;
  literals = a.literals;
  asked = a.stages;
}
