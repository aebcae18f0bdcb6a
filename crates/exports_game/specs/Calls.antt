-- WHAT THE EXPORTED CALL ANSWERS: the whole contract of the public call, its answer as a number, its states and its numbers of moves as cells.
use Rattle.std.specs.Prelude.{◌≡◌, List, ℕ, Result}
use Rattle.rows.specs.declared.Refusal.{Refusal}
use Rattle.game_answer.specs.declared.Game.{Game}
use Rattle.game.specs.Playing.{Plays}
use Rattle.exports_game.specs.Codes.{coded, states, moves}

-- ATTACKER AND GUARDIAN, with the work area and the cells after it
pub record Tells (text attacker guardian work : List ℕ) (n : ℕ) (work' states' moves' : List ℕ) : Type 0 where
  pub game : Result Game Refusal
  pub plays : Plays text attacker guardian work game work'
  pub number : n ≡ coded game
  pub listed : states' ≡ states game
  pub counted : moves' ≡ moves game
