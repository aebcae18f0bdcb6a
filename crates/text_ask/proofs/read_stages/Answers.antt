use native.Mathlib.Omega.{arith}
use Rattle.grammar.proofs.Reading.{reading-full, reading-ends, reading-fails}
use Rattle.text_ask.proofs.Laws.{aside-more, stages-more, stages-closed}
use Rattle.text_ask.proofs.read_stages.Goals as goal

pub returns-in-Some : goal.returns-in-Some
returns-in-Some c = (stages-closed c.loop.invariant.0 c.in-Some.ensures, c.loop.invariant.4)

pub returns-in_err-past : goal.returns-in_err-past
returns-in_err-past c = (rw c.from_residual.ensures (reading-ends c.loop.invariant.0.reading c.in_default.ensures c.in_err-past.ensures), c.loop.invariant.4)

pub returns-in_err-b : goal.returns-in_err-b
returns-in_err-b c =
    let p = c.in_ok-past.ensures in
    (rw c.from_residual-in_err-b.ensures (reading-fails c.loop.invariant.0.reading c.in_default.ensures (rw p.begins at p.read) (rw p.begins at c.in_err-b.ensures)), c.loop.invariant.4)

pub loop-preserved : goal.loop-preserved
loop-preserved c = (
  stages-more c.loop.invariant.0 (omega arith) c.in_default.ensures c.in_ok-past.ensures c.in_ok-b.ensures c.add-table.ensures,
  c.loop.invariant.1,
  c.loop.invariant.2,
  c.loop.invariant.3,
  aside-more c.loop.invariant.4 c.add-table.ensures.aside,
)

pub returns-in_err-end : goal.returns-in_err-end
returns-in_err-end c = (rw c.from_residual-in_err-end.ensures (reading-full c.loop.invariant.0.reading (omega arith) c.in_err-end.ensures), c.loop.invariant.4)

pub returns : goal.returns
returns c = (stages-closed c.loop.invariant.0 c.in_ok-end.ensures, c.loop.invariant.4)
