use Rattle.search.proofs.Laws.{many}
use Rattle.search.proofs.explore.Goals as goal

pub returns-in_err-states : goal.returns-in_err-states
returns-in_err-states c =
    let r = c.reachable in
    rw c.from_residual.ensures (many c.args.m c.requires.0 r.new.work r.result c.in_err-states.ensures.value r.ensures.0, r.ensures.1)
