-- The numbers in the listing's order, one by one.
use mathlib.Core.Path.{◌≡◌, sym, ap, ◌∙◌}
use mathlib.Core.List.{List}
use Prim.Native.Nat.{ℕ, suc, ◌+◌, ◌-◌, ◌<◌}
use native.Mathlib.Omega.{arith}
use borrow.Author.Count.{below_more}
use lib.ListN.{get_or, set, drop, replicate, length-set}
use lib.Seq.{drop-set-lt, drop-drop, get_or-set_same, get_or-set_other}
use Rattle.std.specs.Prelude.{unwrap_or}
use Rattle.limits.specs.Limits as limit
use Rattle.semantics.specs.Facts.{Database}
use Rattle.semantics.specs.Tables.{seat}
use Rattle.game_rounds.specs.Board.{Number, number_at}
use Rattle.game_answer.specs.Arranging.{Arranged}

module _ (S : Database) (states : List ℕ) (ranks : List Number) where
  pub arranged-more : (i : ℕ) (moves : List ℕ) → Arranged S states i ranks moves → i < limit.listed → (v : ℕ) → v ≡ unwrap_or (number_at ranks (seat (get_or states i 0) S)) limit.none → Arranged S states (i + 1) ranks (set moves i v)
  arranged-more i moves a l v q =
      record {
        long = length-set moves i v ∙ a.long;
        each = below_more _ _ (λ k h. get_or-set_other moves i k v 0 (λ z. omega (arith, z, h)) ∙ a.each k h) (get_or-set_same moves i v 0 (omega (arith, l, a.long)) ∙ q);
        rest = drop-set-lt (i + 1) moves i v (omega arith) ∙ sym (drop-drop 1 i moves) ∙ ap (drop 1) a.rest
            ∙ ap (λ (k : ℕ). drop 1 (replicate k 0)) (let k : limit.listed - i ≡ suc (limit.listed - (i + 1)) = omega (arith, l) in k);
      }
