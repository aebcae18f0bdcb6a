-- A RECORD THAT GROWS, line by line. Nothing of what the record of an accepted text says rests on it.
use Rattle.std.specs.Prelude.{◌≡◌, ◌≤◌, take}
use Rattle.model.specs.declared.Model.{Model}

-- the record m' keeps the clauses, the stages and the literals of m
pub record Keeps (m m' : Model) : Type 0 where
  pub clauses : take m.clausecount m'.clauses ≡ take m.clausecount m.clauses
  pub stages : take m.stagecount m'.stages ≡ take m.stagecount m.stages
  pub literals : take m.literalcount m'.literals ≡ take m.literalcount m.literals
  pub literalcount : m.literalcount ≤ m'.literalcount
