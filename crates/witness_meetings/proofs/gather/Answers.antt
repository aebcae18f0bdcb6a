use Rattle.witness_meetings.proofs.Laws.{both_below, gathered}
use Rattle.witness_meetings.proofs.gather.Goals as goal

pub returns : goal.returns
returns c =
    let p = c.requires in
    let a = c.args in
    let both = c.name_both-all.ensures in
    λ w σ takes. gathered a.m p.0 a.k p.1 a.cast a.objects _ both (both_below a.m p.0 a.k p.1 _ _ _ _ both 255 p.2 p.3 p.4) w σ takes a.run.now a.at c.number.result c.number.ensures
