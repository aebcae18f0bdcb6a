-- The stages of the `ask` line, as a record holds them.
use Rattle.std.specs.Prelude.{◌≡◌, List, [], ◌∷◌, ◌++◌, ℕ, ◌+◌, ◌*◌, ◌≤◌, ◌<◌, length, take, set, Result, IfOk, IfErr}
use Rattle.std.proofs.Math.Seq.{paste}
use Rattle.limits.specs.Limits as limit
use Rattle.model.specs.Records as model
use Rattle.model.specs.Records.{stage_at}
use Rattle.model.specs.declared.Stage.{Stage}
use Rattle.model.specs.declared.Model.{Model}
use Rattle.grammar.specs.Forms as forms
use Rattle.grammar.specs.Declarations.{Declared}
use Rattle.grammar.specs.Rows.{stages_fault}
use Rattle.grammar.specs.Models.{question_of}
use Rattle.rows.specs.declared.Row.{Row}
use Rattle.text_faults.specs.Faults.{fault_in}
use Rattle.acceptance.specs.Represents.{HoldsStage}
use Rattle.text_literals.specs.Frames as frames
use Rattle.text_literals.specs.declared.Frame.{Frame}
use Rattle.text_rows.specs.declared.Taken.{Taken}
use Rattle.text_carried.specs.Asking as asking
use Rattle.text_carried.specs.Asking.{each}
use Rattle.text_scope.specs.declared.Scope.{Scope}

abbrev pub new_stage : Model → Frame → List ℕ → Stage
new_stage m f numbers = record { first = m.literalcount; count = f.size; variables = f.scope.count; numbers = numbers }

abbrev pub with_stage : Model → Frame → List ℕ → Model
with_stage m f numbers = record {
  relations = m.relations;
  names = m.names;
  clauses = m.clauses;
  clausecount = m.clausecount;
  literals = paste m.literals m.literalcount f.codes f.size;
  literalcount = m.literalcount + f.size;
  stages = set m.stages m.stagecount (new_stage m f numbers);
  stagecount = m.stagecount + 1;
  carried = m.carried;
  lines = m.lines;
}

-- a record without stages, with room for their literals
pub record Empty (m : Model) : Type 0 where
  pub stagecount : m.stagecount ≡ 0
  pub literalcount : m.literalcount ≤ limit.clauses * limit.body
  pub literals : length m.literals ≡ limit.literals
  pub stages : length m.stages ≡ limit.stages

-- THE RECORD AFTER the stages qs without fault, where it was m₀ before; the table has their variables
pub record Stored (text : List ℕ) (D : Declared) (m₀ : Model) (qs : List (List forms.Literal)) (t : Scope limit.asked) (m : Model) : Type 0 where
  pub table : asking.Holds text t (each qs)
  pub few : t.count ≤ limit.variables * length qs
  pub kept : take m₀.literalcount m.literals ≡ take m₀.literalcount m₀.literals
  pub longer : m₀.literalcount ≤ m.literalcount
  pub relations : m.relations ≡ m₀.relations
  pub names : m.names ≡ m₀.names
  pub clauses : m.clauses ≡ m₀.clauses
  pub clausecount : m.clausecount ≡ m₀.clausecount
  pub lines : m.lines ≡ m₀.lines
  pub stagecount : m.stagecount ≡ length qs
  pub question : model.question_of m ≡ question_of D qs
  pub stage : (i : ℕ) → i < m.stagecount → HoldsStage m (stage_at m i)
  pub room : m.literalcount ≤ limit.clauses * limit.body + limit.body * length qs
  pub literals : length m.literals ≡ limit.literals
  pub stages : length m.stages ≡ limit.stages

-- the variables of the stages so far, or the lowest row of the stages
abbrev pub Asked : Type 0
Asked = Result (Scope limit.asked) Row

-- rows 6 to 9 of the stages qs, and the record m where there is no fault
pub record Holds (text : List ℕ) (D : Declared) (m₀ : Model) (qs : List (List forms.Literal)) (s : Asked) (m : Model) : Type 0 where
  pub number : fault_in s ≡ stages_fault D qs
  pub stored : IfOk s (λ t. Stored text D m₀ qs t m)

-- some stages are held, and there is room for the one that was read
pub record Addable (text : List ℕ) (s : Asked) (m : Model) (b : Taken frames.Framed) : Type 0 where
  pub D : Declared
  pub m₀ : Model
  pub qs : List (List forms.Literal)
  pub q : List forms.Literal
  pub few : length qs < limit.stages
  pub holds : Holds text D m₀ qs s m
  pub frame : frames.Holds text D [] 0 q b.kept

-- the record m' has of m what no stage touches
pub record Aside (m m' : Model) : Type 0 where
  pub relations : m'.relations ≡ m.relations
  pub names : m'.names ≡ m.names
  pub clauses : m'.clauses ≡ m.clauses
  pub clausecount : m'.clausecount ≡ m.clausecount
  pub lines : m'.lines ≡ m.lines

-- the stage that was read is added; nothing is written before a refusal
pub record Added (text : List ℕ) (s : Asked) (m : Model) (b : Taken frames.Framed) (r : Asked) (m' : Model) : Type 0 where
  pub added : (D : Declared) (m₀ : Model) (qs : List (List forms.Literal)) (q : List forms.Literal) → length qs < limit.stages → Holds text D m₀ qs s m → frames.Holds text D [] 0 q b.kept
      → Holds text D m₀ (qs ++ (q ∷ [])) r m'
  pub aside : Aside m m'
  pub unwritten : IfErr r (λ _. m' ≡ m)
