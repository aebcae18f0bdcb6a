use Rattle.witness_meetings.proofs.Laws.{choose-found, choose-some}
use Rattle.witness_meetings.proofs.choose.Goals as goal

pub returns : goal.returns
returns c =
    let p = c.requires in
    let a = c.args in
    choose-found a.m a.work.now a.s p.0 a.k p.2 a.first a.second p.3.0 p.3.1 _ _ c.name_both-fixed.ensures _ (rw c.unwrap.ensures at c.seek_stage.ensures)

pub unwrap-requires : goal.unwrap-requires
unwrap-requires c =
    let p = c.requires in
    let a = c.args in
    choose-some a.m a.work.now a.s p.0 a.k p.2 a.first a.second p.3.0 p.3.1 _ _ c.name_both-fixed.ensures c.free-free.ensures c.seek_stage.result c.seek_stage.ensures
