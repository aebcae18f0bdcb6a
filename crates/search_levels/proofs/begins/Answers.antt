use Rattle.search_levels.proofs.Aiming.{told-here}
use Rattle.search_levels.proofs.begins.Goals as goal

pub returns : goal.returns
returns c =
    let a = c.args in
    λ S R m. told-here S a.work.now a.body.now a.variables a.c c.requires.1 c.requires.0.body c.requires.2 a.e c.choose-one.result c.choose-one.ensures c.shows.result (c.shows.ensures S R m)
