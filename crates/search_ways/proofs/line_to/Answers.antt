use lib.Seq.{get_or-take}
use Rattle.search_ways.proofs.Stepping.{between-takes, between-some}
use Rattle.search_ways.proofs.line_to.Goals as goal

pub unwrap-requires : goal.unwrap-requires
unwrap-requires c =
    let a = c.args in
    between-some a.m c.requires.0 a.s c.requires.1 a.table.now c.requires.2 a.u _ c.requires.5.0 c.requires.3 c.line_between.result c.line_between.ensures (rw (get_or-take a.s.count a.s.states a.t 0 c.requires.4) at c.requires.5.1)

pub returns : goal.returns
returns c =
    let a = c.args in
    rw (get_or-take a.s.count a.s.states a.t 0 c.requires.4)
    (rw c.unwrap.ensures at (between-takes a.m c.requires.0 a.s c.requires.1 a.table.now c.requires.2 a.u _ c.requires.3 c.line_between.result c.line_between.ensures))
