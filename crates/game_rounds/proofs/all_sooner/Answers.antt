use mathlib.Core.Path.{◌≡◌}
use mathlib.Core.Bool.{true, false}
use borrow.Author.Rules.{rules}
use borrow.Author.Tests.{tests}
use Rattle.facts_bits.specs.Bits.{in_row}
use Rattle.game_rounds.specs.Board.{sooner}
use Rattle.game_rounds.proofs.Ranges.{all_over}
use Rattle.game_rounds.proofs.Slots.{every-slots}
use Rattle.game_rounds.proofs.all_sooner.Goals as goal

pub returns : goal.returns
returns c =
    let a = c.args in
    every-slots (sooner a.ranks.now a.round) a.moves.now a.e a.n c.all.result
    (all_over _ _ _ c.all.result (λ t. in_row a.moves.now a.e t ≡ true → sooner a.ranks.now a.round t ≡ true) (λ t. (in_row a.moves.now a.e t ≡ true) × (sooner a.ranks.now a.round t ≡ false)) c.all.ensures.ran (λ x q k. search (rules, tests)) (λ x q k. search (rules, tests)))
