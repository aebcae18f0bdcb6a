-- THE NUMBER OF AN ANSWER: kind × 2^32 + value; and the cells beside it.
use Rattle.std.specs.Prelude.{List, replicate, ℕ, ◌≤◌, Result, Ok, Err}
use Rattle.limits.specs.Limits as limit
use Rattle.rows.specs.Rows.{number_of}
use Rattle.rows.specs.declared.Refusal.{Refusal}
use Rattle.words.specs.Words.{code, refusal}
use Rattle.game_answer.specs.declared.Game.{Game}

-- kind 2 is a refusal, with number × 65,536 + line; kind 15 a game that is told, with the number of states
abbrev pub coded : Result Game Refusal → ℕ
coded (Ok g) = code 15 g.count
coded (Err x) = refusal (number_of x.row) x.line

-- the states, and their numbers of moves; zeros beside a refusal
abbrev pub states : Result Game Refusal → List ℕ
states (Ok g) = g.states
states (Err x) = replicate limit.listed 0

abbrev pub moves : Result Game Refusal → List ℕ
moves (Ok g) = g.moves
moves (Err x) = replicate limit.listed 0

-- at most so many states are listed
abbrev pub Few : Result Game Refusal → Type 0
Few (Ok g) = g.count ≤ limit.listed
Few (Err x) = Unit {0}
