-- THE GAME OVER A TEXT (document 02, R-12): what the call answers, and what the work area then has, for all inputs.
use Rattle.std.specs.Prelude.{◌≡◌, false, List, ℕ, nat_lt, length, Result}
use Rattle.rows.specs.Rows.{Refuses}
use Rattle.rows.specs.declared.Refusal.{Refusal}
use Rattle.limits.specs.Limits as limit
use Rattle.grammar.specs.Texts.{Outcome, accepted, refused}
use Rattle.calls.specs.Calls.{called}
use Rattle.game_answer.specs.declared.Game.{Game}
use Rattle.game_answer.specs.Telling.{Settles}

-- WHAT THE CALL LEAVES, by the table's answer to it: after a refusal of the text the work area is untouched; an accepted text has an answer
abbrev pub Leaves : Outcome → List ℕ → List ℕ → List ℕ → Result Game Refusal → List ℕ → Type 0
Leaves (refused n l) A B work g work' = Refuses n l g × (work' ≡ work)
Leaves (accepted D P Q) A B work g work' = Settles P Q A B work g work'

-- THE ANSWER g to a text and the lines A of the attacker and B of the guardian, with the work area before and after it. "Order: 1, 12, .. then line by line": row 12 speaks of the work area alone, and row 14 of replays only.
abbrev pub Plays : List ℕ → List ℕ → List ℕ → List ℕ → Result Game Refusal → List ℕ → Type 0
Plays text A B work g work' = Leaves (called text (nat_lt (length work) limit.work) false) A B work g work'
