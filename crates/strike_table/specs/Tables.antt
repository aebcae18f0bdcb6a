-- THE TABLE OF CHOICES: what is said of each choice by its number, and how a decided one settles others. What an answer means is said in `striking`.
use Rattle.std.specs.Prelude.{◌≡◌, ◌≢◌, Option, None, Some, MatchOption, Bool, false, if◌then◌else◌, List, ℕ, ◌^◌, ◌≤◌, ◌<◌, ◌==◌, length, slice_index_or, unwrap_or}
use Rattle.std.specs.Int.Bits.{bit_and}
use Rattle.limits.specs.Limits as limit
use Rattle.semantics.specs.Models.{Program, Question}
use Rattle.semantics.specs.Steps.{MoreThan}
use Rattle.semantics.specs.Questions.{Verdict}
use Rattle.model.specs.declared.Model.{Model}
use Rattle.model.specs.Records.{program_of, question_of}
use Rattle.model.specs.WellFormed.{WellFormed}
use Rattle.facts_heads.specs.Heads.{room}
use Rattle.striking.specs.Striking.{strike, most}
use Rattle.striking.specs.Numbers.{numbered}
use Rattle.strike_list.specs.declared.Lines.{Lines}
use Rattle.strike_list.specs.Lists.{listed}
use Rattle.strike_table.specs.declared.Table.{Table}

-- what is said of choice k of a table
abbrev pub said_of : List (Option Bool) → ℕ → Option Bool
said_of said k = slice_index_or said k None

-- what is said of a choice is right: whether it is reached, or nothing
abbrev pub Told : Program → Question → Option Bool → Type 0
Told P Q None = Unit {0}
Told P Q (Some b) = Verdict P Q b

-- choice n, which is reached or not, settles choice k: n is reached and strikes all that k strikes, or it is unreached and k strikes all that n strikes
unfoldable pub settled : ℕ → Bool → ℕ → Bool
settled n b k = if b then bit_and k n == k else bit_and k n == n

-- b is said of all choices that n settles, and of the others what was said
pub record Marked (n : ℕ) (b : Bool) (said said' : List (Option Bool)) : Type 0 where
  pub long : length said' ≡ length said
  pub each : (k : ℕ) → k < length said → said_of said' k ≡ (if settled n b k then Some b else said_of said k)

module _ (P : Program) (Q : Question) (xs : List ℕ) where
  -- what is said of the choices of the lines xs is right
  abbrev pub Right : List (Option Bool) → Type 0
  Right said = (k : ℕ) → k < length said → Told (strike P (numbered xs k)) Q (said_of said k)

  -- it is right still, and no choice is undecided again
  pub record Onward (said said' : List (Option Bool)) : Type 0 where
    pub long : length said' ≡ length said
    pub right : Right said'
    pub keeps : (k : ℕ) → k < length said → said_of said k ≢ None → said_of said' k ≢ None

  -- and choice n is decided
  pub record Settles (n : ℕ) (said said' : List (Option Bool)) : Type 0 where
    pub onward : Onward said said'
    pub decided : said_of said' n ≢ None

  -- it is reached or not
  pub record Decides (n : ℕ) (b : Bool) (said said' : List (Option Bool)) : Type 0 where
    pub onward : Onward said said'
    pub told : said_of said' n ≡ Some b

  -- every choice is decided, and rightly
  pub record Complete (said : List (Option Bool)) : Type 0 where
    pub right : Right said
    pub all : (k : ℕ) → k < length said → said_of said k ≢ None

-- before a choice is decided: not too many states with nothing struck, a table of all choices that is right so far, and room for a search
pub record Ready (m : Model) (l : Lines) (said : List (Option Bool)) (facts : List ℕ) : Type 0 where
  pub formed : WellFormed m
  pub sparse : MoreThan limit.atomic (program_of m) → ⊥
  pub few : l.count ≤ most
  pub all : length said ≡ 2 ^ l.count
  pub right : Right (program_of m) (question_of m) (listed l) said
  pub space : room ≤ length facts

-- WHAT THE TABLE SAYS of the choices of the lines xs, where not too many states are reachable with nothing struck: whether each choice is reached
pub record Filled (P : Program) (Q : Question) (xs : List ℕ) (t : Table) : Type 0 where
  pub few : MoreThan limit.atomic P → ⊥
  pub total : t.total ≡ 2 ^ length xs
  pub verdict : (k : ℕ) → k < 2 ^ length xs → Verdict (strike P (numbered xs k)) Q (unwrap_or (said_of t.said k) false)

-- no table, exactly if "more than 127 non-empty states are reachable" with nothing struck
abbrev pub Fills : Program → Question → List ℕ → Option Table → Type 0
Fills P Q xs r = MatchOption r (MoreThan limit.atomic P) (Filled P Q xs)
