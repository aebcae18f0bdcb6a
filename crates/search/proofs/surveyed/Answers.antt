use Rattle.search.proofs.Laws.{exactly, no_more, not-many, reachable}
use Rattle.search.proofs.surveyed.Goals as goal

pub tables-moves-requires : goal.tables-moves-requires
tables-moves-requires c =
    let a = c.args in
    (c.requires.0, c.requires.1, exactly a.m c.requires.0 a.work.now a.states c.requires.2, no_more a.m c.requires.0 a.work.now a.states c.requires.2)

pub returns : goal.returns
returns c =
    let a = c.args in
    let q = c.requires.2 in record {
      few = not-many a.m c.requires.0 a.work.now a.states q;
      proper = q.proper;
      reachable = reachable a.m c.requires.0 a.work.now a.states q;
      listing = c.rising-listing.ensures;
      found = q.found;
      whole = no_more a.m c.requires.0 a.work.now a.states q;
      agree = q.agree;
      exact = q.exact;
      marks = q.marks;
      moves = c.tables-moves.ensures;
    }
