-- HOW MUCH OF THE POLICY MATTERS (document 02, R-10): what the call answers, and what the work area then has, for all inputs.
use Rattle.std.specs.Prelude.{◌≡◌, ◌⊎◌, List, ℕ, Result}
use Rattle.rows.specs.Rows.{Refuses}
use Rattle.rows.specs.declared.Refusal.{Refusal}
use Rattle.semantics.specs.Models.{Program, Question}
use Rattle.grammar.specs.Texts.{Outcome, accepted, refused}
use Rattle.calls.specs.Calls.{Gives}
use Rattle.calls.specs.Wiping.{wiped}
use Rattle.striking.specs.Striking.{Tally}
use Rattle.calls.specs.Crowding.{Crowded, too_many}
use Rattle.strike_calls.specs.Calls.{asked}
use Rattle.tally.specs.declared.Count.{Count}

-- the tally of all choices
abbrev pub Tallied : Program → Question → List ℕ → Count → Type 0
Tallied P Q L t = Tally P Q L t.reached t.unreached t.share t.remainder

-- THE RIGHT ANSWER to a list that is not refused: 15 exactly if there are too many states, and else the tally
abbrev pub Answers : Program → Question → List ℕ → Result Count Refusal → Type 0
Answers P Q L r = (Crowded P × Refuses too_many 0 r) ⊎ ((Crowded P → ⊥) × Gives (Tallied P Q L) r)

-- WHAT THE CALL LEAVES, by the table's answer to it: 1 to 12 and 19 leave the work area as it is; 15 and a tally leave "the first 65,536 work bytes zero", the rest untouched
abbrev pub Leaves : Outcome → List ℕ → List ℕ → Result Count Refusal → List ℕ → Type 0
Leaves (refused n l) L work r work' = Refuses n l r × (work' ≡ work)
Leaves (accepted D P Q) L work r work' = Answers P Q L r × (work' ≡ wiped work)

-- THE CALL r over a text and a list of lines, with the work area before and after it
abbrev pub Tallies : List ℕ → List ℕ → List ℕ → Result Count Refusal → List ℕ → Type 0
Tallies text list work r work' = Leaves (asked text list work) list work r work'
