-- What a number of the answer tells is the rank that it stands for.
use mathlib.Core.Path.{◌≡◌, refl}
use mathlib.Core.Option.{some}
use Prim.Native.Nat.{ℕ, ◌≤◌, ◌<◌}
use native.Mathlib.Omega.{arith}
use borrow.Author.Tests.{ne_eqb}
use Rattle.std.specs.Prelude as prelude
use Rattle.std.specs.Prelude.{unwrap_or}
use Rattle.limits.specs.Limits as limit
use Rattle.game_rounds.specs.Board.{Number, rank_of}
use Rattle.game_answer.specs.Telling.{told}

pub told-number : (v : Number) (k : ℕ) → k < limit.none → ((x : ℕ) → rank_of v ≡ some x → x ≤ k) → told (unwrap_or v limit.none) ≡ rank_of v
unfolding told
told-number (prelude.Some v) k few h = rw (ne_eqb v limit.none (λ z. omega (arith, z, few, h v refl))) refl
told-number prelude.None k few h = refl
