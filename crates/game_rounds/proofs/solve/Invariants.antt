use mathlib.Core.Path.{◌≡◌}
use mathlib.Core.List.{List}
use Prim.Native.Nat.{ℕ, suc, ◌-◌, ◌≤◌}
use Rattle.game_rounds.specs.Board.{board, Fits, Begun}
use Rattle.game_rounds.proofs.Numbers.{Agree}
use Rattle.game_rounds.proofs.solve.Given as goal

abbrev pub invariant-loop-second : goal.invariant-loop-second
invariant-loop-second l = (M : List ℕ) → Fits l.ours l.theirs M l.n → Begun M l.n l.initial.first → (k : ℕ) × (l.round ≡ suc k) × (k ≤ 252) × Agree (board l.ours l.theirs M l.n) l.n k l.first l.second

abbrev pub decreases-loop-second : goal.decreases-loop-second
decreases-loop-second l = 254 - l.round
