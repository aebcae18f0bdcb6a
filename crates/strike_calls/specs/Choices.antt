-- EVERY CHOICE of the lines of a list: what is decided of them, and what the work area then has, for all inputs.
use Rattle.std.specs.Prelude.{◌≡◌, List, ℕ, ◌≤◌, length, Result, MatchResult}
use Rattle.rows.specs.Rows.{number_of, Refuses}
use Rattle.rows.specs.declared.Refusal.{Refusal}
use Rattle.semantics.specs.Models.{Program, Question, Distinct}
use Rattle.grammar.specs.Texts.{Outcome, accepted, refused}
use Rattle.calls.specs.Crowding.{Crowded, too_many}
use Rattle.calls.specs.Wiping.{wiped}
use Rattle.striking.specs.Striking.{most, rising}
use Rattle.strike_list.specs.Lists.{shown}
use Rattle.strike_table.specs.Tables.{Filled}
use Rattle.strike_calls.specs.Calls.{asked}
use Rattle.strike_calls.specs.declared.Choices.{Choices}

-- the lines of a list that is not refused, and a table that says of each choice of them whether it is reached
pub record Decided (P : Program) (Q : Question) (L : List ℕ) (c : Choices) : Type 0 where
  pub once : Distinct L
  pub few : length (rising L) ≤ most
  pub lines : c.lines ≡ shown (rising L)
  pub filled : Filled P Q (rising L) c.table

-- 15 exactly if there are too many states
abbrev pub Chooses : Program → Question → List ℕ → Result Choices Refusal → Type 0
Chooses P Q L r = MatchResult r (Decided P Q L) (λ x. Crowded P × (number_of x.row ≡ too_many) × (x.line ≡ 0))

-- WHAT IS LEFT, by the table's answer to the call: 1 to 12 and 19 leave the work area as it is; 15 and the choices leave "the first 65,536 work bytes zero", the rest untouched
abbrev pub Leaves : Outcome → List ℕ → List ℕ → Result Choices Refusal → List ℕ → Type 0
Leaves (refused n l) L work r work' = Refuses n l r × (work' ≡ work)
Leaves (accepted D P Q) L work r work' = Chooses P Q L r × (work' ≡ wiped work)

-- a text and a list of lines, with the work area before and after
abbrev pub Decides : List ℕ → List ℕ → List ℕ → Result Choices Refusal → List ℕ → Type 0
Decides text list work r work' = Leaves (asked text list work) list work r work'
