use mathlib.Core.Path.{refl}
use Rattle.std.specs.Prelude.{Some}
use Rattle.search.proofs.Laws.{searched-from}
use Rattle.search.proofs.search_from.Goals as goal

pub returns : goal.returns
returns c =
    let e = c.in_ok-explored in
    let p = c.aim-among in
    (searched-from c.args.m c.requires.0 c.explore.new.work e.explored e.ensures.0 (Some p.result) c.judged.result c.judged.ensures c.requires.2 c.args.state p.result refl p.ensures, e.ensures.1)
