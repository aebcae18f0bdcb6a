use mathlib.Core.Path.{◌∙◌}
use Rattle.game_rounds.specs.Board.{side_of}
use Rattle.game_rounds.proofs.Slots.{ready-stuck, ready-some, ready-all}
use Rattle.game_rounds.proofs.ready.Goals as goal

pub returns-then-vacant : goal.returns-then-vacant
returns-then-vacant c =
    let a = c.args in
    let w = c.row in
    let v = c.vacant in
    c.sooner.ensures ∙ ready-stuck a.moves.now a.e a.n c.requires.0 a.ranks.now a.round w.result w.ensures v.result v.ensures c.if-vacant.true (side_of a.side)

pub returns-in-Attacker : goal.returns-in-Attacker
returns-in-Attacker c =
    let a = c.args in
    let w = c.row in
    let v = c.vacant in
    rw c.in-Attacker.is (ready-some a.moves.now a.e a.n c.requires.0 a.ranks.now a.round w.result w.ensures v.result v.ensures c.requires.2 c.if-vacant.false c.some_sooner.result c.some_sooner.ensures)

pub returns-in-Guardian : goal.returns-in-Guardian
returns-in-Guardian c =
    let a = c.args in
    let w = c.row in
    let v = c.vacant in
    rw c.in-Guardian.is (ready-all a.moves.now a.e a.n c.requires.0 a.ranks.now a.round w.result w.ensures v.result v.ensures c.requires.2 c.if-vacant.false c.all_sooner.result c.all_sooner.ensures)
