-- What a line that is no `ask` line does.
use Rattle.std.specs.Prelude.{◌≡◌, List, ◌++◌, ℕ, length, drop, Result, Err, IfErr}
use Rattle.std.proofs.Math.Option.{none}
use Rattle.semantics.specs.Models.{Program}
use Rattle.grammar.specs.Bytes.{bytes}
use Rattle.grammar.specs.Forms.{Form}
use Rattle.grammar.specs.Shapes.{Read, after, line}
use Rattle.grammar.specs.Rows.{fault}
use Rattle.grammar.specs.Models.{declare, clause}
use Rattle.rows.specs.declared.Row.{Row}
use Rattle.rows.specs.declared.Row.TheVariants.{Shape}
use Rattle.text_names.specs.Names.{Valid, declared_of}
use Rattle.text_names.specs.declared.Declared.{Declared}
use Rattle.text_faults.specs.Faults.{Judged}
use Rattle.text_clauses.specs.declared.Reading.{Reading}
use Rattle.text_clauses.specs.Clauses.{ClauseEnd}
use Rattle.text_declarations.specs.Declares.{Limited}
use Rattle.text_record.specs.Stored as stored
use Rattle.model.specs.declared.Model.{Model}

-- what is good of the declarations d' and the record m' after the declarations d and the program P with the form of line n
pub record GoodStep (text : List ℕ) (d : Declared) (P : Program) (n : ℕ) (d' : Declared) (m' : Model) (form : Form) : Type 0 where
  pub valid : Valid text d'
  pub limited : Limited d'
  pub declared : declared_of text d' ≡ declare (declared_of text d) form
  pub stored : stored.Holds m' (P ++ clause (declared_of text d) n form)

-- after the declarations d and the program P: the line has the lowest row, or d' and m' have what it adds to them
abbrev pub Stepped : List ℕ → Declared → Program → ℕ → Read Form → Result (Unit {0}) Row → Declared → Model → Type 0
Stepped text d P n read r d' m' = Judged read (λ form k. k ≡ fault (declared_of text d) (length P) form) (λ form _. GoodStep text d P n d' m' form) r

-- the record m' has of m what no clause touches
pub record Aside (m m' : Model) : Type 0 where
  pub relations : m'.relations ≡ m.relations
  pub names : m'.names ≡ m.names
  pub stages : m'.stages ≡ m.stages
  pub stagecount : m'.stagecount ≡ m.stagecount
  pub carried : m'.carried ≡ m.carried
  pub lines : m'.lines ≡ m.lines

-- the line from place `at` on declares nothing
pub record ClauseAt (text : List ℕ) (at : ℕ) : Type 0 where
  pub states : after (bytes "(state ") (drop at text) ≡ none
  pub relations : after (bytes "(rel ") (drop at text) ≡ none

-- the clause of that line, which is no `ask` line if it has row 3
abbrev pub ClauseRead : List ℕ → ℕ → Declared → ℕ → Result Reading Row → Type 0
ClauseRead text at d clauses r = (r ≡ Err Shape → after (bytes "(ask ") (drop at text) ≡ none) → ClauseEnd (declared_of text d) clauses (line (drop at text)) r

-- the line from place `at` on, which is no `ask` line if it has row 3; nothing is written before a refusal
pub record LineEnd (text : List ℕ) (at : ℕ) (d : Declared) (m : Model) (n : ℕ) (r : Result (Unit {0}) Row) (d' : Declared) (m' : Model) : Type 0 where
  pub steps : (r ≡ Err Shape → after (bytes "(ask ") (drop at text) ≡ none) → (P : Program) → stored.Holds m P → Stepped text d P n (line (drop at text)) r d' m'
  pub aside : Aside m m'
  pub unwritten : IfErr r (λ _. (d' ≡ d) × (m' ≡ m))
