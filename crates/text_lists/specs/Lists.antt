-- What the readers of lists find.
use Rattle.std.specs.Prelude.{◌≡◌, [], ◌∷◌, ◌++◌, ℕ, ◌≤◌, ◌<◌, length, drop, Result, IfOk, ⊤}
use mathlib.Core.List as seq
use Rattle.std.proofs.Math.Option.{some}
use Rattle.semantics.specs.Labels.{set_of}
use Rattle.grammar.specs.Bytes.{Word}
use Rattle.grammar.specs.Shapes.{list}
use Rattle.grammar.specs.Declarations.{Declared}
use Rattle.grammar.specs.Rows.{list_fault}
use Rattle.grammar.specs.Models.{codes}
use Rattle.rows.specs.declared.Row.{Row}
use Rattle.text_faults.specs.Faults.{fault_in}
use Rattle.text_names.specs.declared.Declared as names
use Rattle.text_names.specs.Names.{declared_of, Valid}
use Rattle.text_rows.specs.declared.Taken.{Taken}

-- the set of the relations so far, or a row
abbrev pub Chosen : Type 0
Chosen = Result ℕ Row

-- it is that of the names ws
pub record Holds (D : Declared) (ws : seq.List Word) (s : Chosen) : Type 0 where
  pub number : fault_in s ≡ list_fault D ws
  pub set : IfOk s (λ n. n ≡ set_of (codes D ws))

-- r holds what s holds and the names more
abbrev pub Extends : Declared → Chosen → seq.List Word → Chosen → Type 0
Extends D s more r = (ws : seq.List Word) → Holds D ws s → Holds D (ws ++ more) r

pub record NameAdded (D : Declared) (s : Chosen) (w : Word) (r : Chosen) : Type 0 where
  pub added : Extends D s (w ∷ []) r

-- what is kept of the names of a list
abbrev pub Keeps : seq.List ℕ → names.Declared → ⊤ → seq.List Word → Chosen → Type 0
Keeps text d c ws s = Valid text d × Holds (declared_of text d) ws s

-- the list that is next
pub record ListEnd (text : seq.List ℕ) (D : Declared) (at : ℕ) (r : Taken Chosen) : Type 0 where
  pub ws : seq.List Word
  pub begins : at < r.end
  pub ends : r.end ≤ length text
  pub read : list (drop at text) ≡ some (ws, drop r.end text)
  pub holds : Holds D ws r.kept
