-- The variables that a table of variables stands for.
use Rattle.std.specs.Prelude.{◌≡◌, Bool, true, false, List, map, ℕ, ◌+◌, ◌≤◌, ◌<◌, length, slice_index_or, set}
use Rattle.std.proofs.Math.Seq.{slice}
use Rattle.grammar.specs.Bytes.{Word}
use Rattle.grammar.specs.Declarations.{member, place}
use Rattle.text_names.specs.Rows.{list_of}
use Rattle.text_scope.specs.declared.Variable.{Variable}
use Rattle.text_scope.specs.declared.Scope.{Scope}

-- what stands in a place that no variable has taken
abbrev pub blank : Variable
blank = record { start = 0; end = 0; marked = false }

abbrev pub variable_at : {N : ℕ} → Scope N → ℕ → Variable
variable_at s i = slice_index_or s.variables i blank

-- variable i
abbrev pub variable : {N : ℕ} → List ℕ → Scope N → ℕ → Word
variable text s i = slice (variable_at s i).start (variable_at s i).end text

unfoldable pub known_of : {N : ℕ} → List ℕ → Scope N → List Word
known_of text s = list_of s.count (variable text s)

-- whether variable i is marked
abbrev pub mark : {N : ℕ} → Scope N → ℕ → Bool
mark s i = (variable_at s i).marked

-- which of them are marked
unfoldable pub marks_of : {N : ℕ} → Scope N → List Bool
marks_of s = list_of s.count (mark s)

-- each variable stands in the text
pub record Valid {N : ℕ} (text : List ℕ) (s : Scope N) : Type 0 where
  pub count : s.count ≤ N
  pub variables : length s.variables ≡ N
  pub within : (i : ℕ) → i < s.count → ((variable_at s i).start ≤ (variable_at s i).end) × ((variable_at s i).end ≤ length text)

-- the word w is variable i of vs
pub record Known (vs : List Word) (w : Word) (i : ℕ) : Type 0 where
  pub known : member w vs ≡ true
  pub number : i ≡ place vs w

-- variable i is marked
abbrev pub marking : {N : ℕ} → Scope N → ℕ → Scope N
marking s i = record { count = s.count; variables = set s.variables i (record { start = (variable_at s i).start; end = (variable_at s i).end; marked = true }) }

-- one variable more, which stands first from a to e
abbrev pub added : {N : ℕ} → Scope N → ℕ → ℕ → Bool → Scope N
added s a e p = record { count = s.count + 1; variables = set s.variables s.count (record { start = a; end = e; marked = p }) }

-- THE TABLE HOLDS the variables vs, of which those among S stand in a literal without `not`
pub record Holds {N : ℕ} (text : List ℕ) (s : Scope N) (vs S : List Word) : Type 0 where
  pub valid : Valid text s
  pub known : known_of text s ≡ vs
  pub marks : marks_of s ≡ map (λ v. member v S) vs
  pub within : (x : Word) → member x S ≡ true → member x vs ≡ true
