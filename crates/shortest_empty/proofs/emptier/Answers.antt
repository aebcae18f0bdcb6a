use Rattle.search_ways.proofs.Stepping.{between-takes}
use Rattle.shortest_empty.proofs.emptier.Goals as goal

pub returns : goal.returns
returns c =
    let a = c.args in
    between-takes a.m c.requires.0 a.s c.requires.1 a.moves.now.table c.requires.2 a.u 0 c.requires.3 c.line_between.result c.line_between.ensures
