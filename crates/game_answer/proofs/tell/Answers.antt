use mathlib.Core.Path.{refl}
use Rattle.game_rounds.specs.Board.{Fits}
use Rattle.game_answer.proofs.Laws.{fits, telling}
use Rattle.game_answer.proofs.tell.Goals as goal
use Rattle.game_answer.proofs.tell.Goals.{After-meeting-met}

-- the tables fit a board
board : (c : After-meeting-met) → Fits c.own-ours.result c.own-theirs.result c.meeting-met.result c.args.found.states.count
board c =
    let a = c.args in
    let o = c.own-ours in
    let t = c.own-theirs in
    fits a.m c.requires.0 c.requires.1 a.facts.now a.found c.requires.2 a.attacker.now a.guardian.now o.result t.result c.meeting-met.result o.ensures t.ensures c.meeting-met.ensures

pub solve-ranks-requires : goal.solve-ranks-requires
solve-ranks-requires c = board (goal.at.solve-ranks-requires c).After-meeting-met

pub returns : goal.returns
returns c =
    let a = c.args in
    let o = c.own-ours in
    let t = c.own-theirs in
    let k = c.meeting-met in
    let v = c.solve-ranks in
    telling a.m c.requires.0 c.requires.1 a.facts.now a.found c.requires.2 a.attacker.now a.guardian.now o.result t.result k.result o.ensures t.ensures k.ensures v.result (board (goal.at.returns c).After-meeting-met) v.ensures _ c.arranged-moves.ensures refl refl
