-- THE NUMBERS IN THE LISTING'S ORDER: ranks has one for each slot of the row S of found states, and behind them one for the empty state.
use Rattle.std.specs.Prelude.{◌≡◌, List, ℕ, ◌-◌, ◌<◌, length, drop, slice_index, replicate, unwrap_or}
use Rattle.limits.specs.Limits as limit
use Rattle.semantics.specs.Facts.{Database}
use Rattle.semantics.specs.Tables.{seat}
use Rattle.game_rounds.specs.Board.{Number, number_at}

-- each of the first n states has the number of its place, or 255
pub record Arranged (S : Database) (states : List ℕ) (n : ℕ) (ranks : List Number) (moves : List ℕ) : Type 0 where
  pub long : length moves ≡ limit.listed
  pub each : (i : ℕ) → i < n → slice_index moves i ≡ unwrap_or (number_at ranks (seat (slice_index states i) S)) limit.none
  pub rest : drop n moves ≡ replicate (limit.listed - n) 0
