use native.Mathlib.Omega.{arith}
use Rattle.listing_lines.specs.Lines.{atomic_line}
use Rattle.listing.proofs.Laws.{line-more}
use Rattle.listing.proofs.put_states.Goals as goal

pub loop-set-preserved : goal.loop-set-preserved
loop-set-preserved c =
    let l = c.loop-set in
    let w = c.put_state-next.ensures in
    (line-more (atomic_line c.args.text.now c.args.m.now) c.args.states.now l.set-index (omega arith) l.invariant.0 w.0, omega (arith, w.1, l.invariant.1))
