use Rattle.search_ways.proofs.Laws.{closed-law}
use borrow.Author.Rules.{rules}
use Rattle.search.proofs.tables.Goals as goal

pub returns : goal.returns
returns c =
    let a = c.args in
    let k = c.steps-steps in
    let w = c.close in
    record {
      tabled = search rules;
      stepped = search rules;
      closed = search rules;
      table = c.takes-table.ensures a.s c.requires.2;
      steps = k.ensures;
      ways = closed-law a.m c.requires.0 a.s c.requires.2.proper k.result k.ensures c.requires.3 w.new.ways w.ensures;
    }
