-- WHICH LINES TO STRIKE (document 02, R-8): what the call answers, and what the work area then has, for all inputs.
use Rattle.std.specs.Prelude as std
use Rattle.std.specs.Prelude.{◌≡◌, ◌⊎◌, List, ℕ, ◌≤◌, length, Result}
use Rattle.std.proofs.Math.Option.{Option, none, some}
use Rattle.rows.specs.Rows.{Refuses}
use Rattle.rows.specs.declared.Refusal.{Refusal}
use Rattle.semantics.specs.Models.{Program, Question}
use Rattle.grammar.specs.Texts.{Outcome, accepted, refused}
use Rattle.calls.specs.Calls.{Gives}
use Rattle.calls.specs.Wiping.{wiped}
use Rattle.striking.specs.Striking.{most, Cured}
use Rattle.strike_list.specs.declared.Lines.{Lines}
use Rattle.strike_list.specs.Lists.{shown}
use Rattle.calls.specs.Crowding.{Crowded, too_many}
use Rattle.strike_calls.specs.Calls.{asked}

-- the lines of a choice by rising number; or that no choice does
abbrev pub told : Option (List ℕ) → std.Option Lines
told none = std.None
told (some C) = std.Some (shown C)

-- at most ten lines are to be struck
abbrev pub Few : Option (List ℕ) → Type 0
Few none = Unit {0}
Few (some C) = length C ≤ most

-- the choice that cures, or that none does
abbrev pub Advises : Program → Question → List ℕ → std.Option Lines → Type 0
Advises P Q L r = (a : Option (List ℕ)) × Cured P Q L a × (r ≡ told a) × Few a

-- THE RIGHT ANSWER to a list that is not refused: 15 exactly if there are too many states, and else the advice
abbrev pub Answers : Program → Question → List ℕ → Result (std.Option Lines) Refusal → Type 0
Answers P Q L r = (Crowded P × Refuses too_many 0 r) ⊎ ((Crowded P → ⊥) × Gives (Advises P Q L) r)

-- WHAT THE CALL LEAVES, by the table's answer to it: 1 to 12 and 19 leave the work area as it is; 15 and every other answer leave "the first 65,536 work bytes zero", the rest untouched
abbrev pub Leaves : Outcome → List ℕ → List ℕ → Result (std.Option Lines) Refusal → List ℕ → Type 0
Leaves (refused n l) L work r work' = Refuses n l r × (work' ≡ work)
Leaves (accepted D P Q) L work r work' = Answers P Q L r × (work' ≡ wiped work)

-- THE CALL r over a text and a list of lines, with the work area before and after it
abbrev pub Cures : List ℕ → List ℕ → List ℕ → Result (std.Option Lines) Refusal → List ℕ → Type 0
Cures text list work r work' = Leaves (asked text list work) list work r work'
