use mathlib.Core.Path.{refl}
use Rattle.std.specs.Prelude.{None}
use Rattle.search.proofs.Laws.{searched}
use Rattle.search.proofs.search.Goals as goal

pub returns : goal.returns
returns c =
    let e = c.in_ok-explored in
    (searched c.args.m c.requires.0 c.explore.new.work e.explored e.ensures.0 None c.judged.result c.judged.ensures refl, e.ensures.1)
