-- The declarations that a table of declared names stands for.
use Rattle.std.specs.Prelude.{◌≡◌, if◌then◌else◌, List, ℕ, zero, suc, ◌+◌, ◌/◌, ◌≤◌, ◌<◌, ◌==◌, length, slice_index_or, set}
use Rattle.std.specs.Prelude as prelude
use Rattle.std.proofs.Math.Option.{Option, none, some}
use Rattle.std.proofs.Math.Seq.{slice}
use Rattle.limits.specs.Limits as limit
use Rattle.grammar.specs.Bytes.{Word}
use Rattle.grammar.specs.Declarations as grammar
use Rattle.text_names.specs.Rows.{list_of}
use Rattle.text_names.specs.declared.Name.{Name}
use Rattle.text_names.specs.declared.Declared.{Declared}

-- what stands in a place that no name has taken
abbrev pub blank : Name
blank = record { code = 0; start = 0; len = 0 }

abbrev pub name_at : Declared → ℕ → Name
name_at d i = slice_index_or d.names i blank

-- where a name begins and ends
abbrev pub begin : Name → ℕ
begin n = n.start

abbrev pub end : Name → ℕ
end n = n.start + n.len

-- name i with its code
abbrev pub entry : List ℕ → Declared → ℕ → Word × ℕ
entry text d i = (slice (begin (name_at d i)) (end (name_at d i)) text, (name_at d i).code)

unfoldable pub declared_of : List ℕ → Declared → grammar.Declared
declared_of text d = list_of d.count (entry text d)

-- each name stands in the text, and has a code
pub record Valid (text : List ℕ) (d : Declared) : Type 0 where
  pub count : d.count ≤ limit.declared
  pub names : length d.names ≡ limit.declared
  pub within : (i : ℕ) → i < d.count → end (name_at d i) ≤ length text
  pub coded : (i : ℕ) → i < d.count → (name_at d i).code < 128

-- the code that is found, as the grammar has it
abbrev pub found : prelude.Option ℕ → Option ℕ
found prelude.None = none
found (prelude.Some c) = some c

-- how many of the first n names are of class k
abbrev pub tally : ℕ → List Name → ℕ → ℕ
tally k names zero = 0
tally k names (suc n) = if (slice_index_or names n blank).code / 32 == k then suc (tally k names n) else tally k names n

-- one name more
abbrev pub added : Declared → Name → Declared
added d name = record { names = set d.names d.count name; count = d.count + 1 }
