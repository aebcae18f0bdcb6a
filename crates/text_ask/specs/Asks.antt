-- What the reader of the `ask` line finds.
use Rattle.std.specs.Prelude.{◌≡◌, List, ◌++◌, ℕ, ◌+◌, ◌≤◌, ◌<◌, length, drop, Option, Some, None, Result, Ok, Err}
use Rattle.std.proofs.Math.Option.{some}
use Rattle.limits.specs.Limits as limit
use Rattle.semantics.specs.Models.{carriers}
use Rattle.model.specs.Records as model
use Rattle.model.specs.Records.{stage_at, padded}
use Rattle.model.specs.declared.Model.{Model}
use Rattle.grammar.specs.Forms as forms
use Rattle.grammar.specs.Shapes.{Read, rest, stage}
use Rattle.grammar.specs.Declarations.{Declared}
use Rattle.rows.specs.declared.Row.{Row}
use Rattle.text_faults.specs.Faults.{Judged}
use Rattle.rows.specs.declared.Row.TheVariants.{Carried}
use Rattle.grammar.specs.Rows.{fault}
use Rattle.grammar.specs.Models.{question_of}
use Rattle.acceptance.specs.Represents.{HoldsStage}
use Rattle.acceptance.specs.Growing.{Keeps}
use Rattle.text_carried.specs.Asking.{carriers_of}
use Rattle.text_stages.specs.Questions as questions
use Rattle.text_rows.specs.declared.Taken.{Taken}

-- r and m' hold what s and m hold and the stages more
abbrev pub Extends : List ℕ → Declared → questions.Asked → Model → List (List forms.Literal) → questions.Asked → Model → Type 0
Extends text D s m more r m' = (m₀ : Model) (qs : List (List forms.Literal)) → length qs + length more ≤ limit.stages → questions.Holds text D m₀ qs s m → questions.Holds text D m₀ (qs ++ more) r m'

-- at most n stages, added to those of s and m
pub record StagesEnd (text : List ℕ) (D : Declared) (at n : ℕ) (s : questions.Asked) (m : Model) (r : Taken questions.Asked) (m' : Model) : Type 0 where
  pub more : List (List forms.Literal)
  pub ends : r.end ≤ length text
  pub few : length more ≤ n
  pub read : rest stage n (drop at text) ≡ some (more, drop r.end text)
  pub holds : Extends text D s m more r.kept m'

-- the record with the carried variables in their cells
abbrev pub carrying : Model → List ℕ → Model
carrying m cells = record {
  relations = m.relations;
  names = m.names;
  clauses = m.clauses;
  clausecount = m.clausecount;
  literals = m.literals;
  literalcount = m.literalcount;
  stages = m.stages;
  stagecount = m.stagecount;
  carried = cells;
  lines = m.lines;
}

-- row 11 after rows 6 to 9
abbrev pub cells_of : Option (List ℕ) → Result (List ℕ) Row
cells_of None = Err Carried
cells_of (Some cells) = Ok cells

abbrev pub finished : questions.Asked → Result (List ℕ) Row
finished (Err r) = Err r
finished (Ok t) = cells_of (carriers_of t)

-- THE RECORD m of a text whose `ask` line has the stages qs, where it was m₀ before that line
pub record Asks (D : Declared) (m₀ : Model) (qs : List (List forms.Literal)) (m : Model) : Type 0 where
  pub relations : m.relations ≡ m₀.relations
  pub names : m.names ≡ m₀.names
  pub lines : m.lines ≡ m₀.lines
  pub clauses : m.clauses ≡ m₀.clauses
  pub clausecount : m.clausecount ≡ m₀.clausecount
  pub keeps : Keeps m₀ m
  pub stagecount : m.stagecount ≡ length (question_of D qs)
  pub question : model.question_of m ≡ question_of D qs
  pub stage : (i : ℕ) → i < m.stagecount → HoldsStage m (stage_at m i)
  pub carried : m.carried ≡ padded limit.carried (carriers (question_of D qs))
  pub literalcount : m.literalcount ≤ limit.literals
  pub literals : length m.literals ≡ limit.literals
  pub stages : length m.stages ≡ limit.stages

-- what is good of the record of a form
abbrev pub GoodAsk : Declared → Model → forms.Form → Model → Type 0
GoodAsk D m₀ form m = (qs : List (List forms.Literal)) × (form ≡ forms.ask_form qs) × Asks D m₀ qs m

-- the `ask` line that is read, after the declarations D, and the record m after it
abbrev pub AskEnd : Declared → Model → Read forms.Form → Result (Unit {0}) Row → Model → Type 0
AskEnd D m₀ read r m = Judged read (λ form n. (clauses : ℕ) → n ≡ fault D clauses form) (λ form _. GoodAsk D m₀ form m) r
