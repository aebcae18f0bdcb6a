use native.Mathlib.Omega.{arith}
use Rattle.grammar.proofs.Reading.{reading-full, reading-ends, reading-fails}
use Rattle.text_rows.proofs.Laws.{row-more, row-closed}
use Rattle.text_rows.proofs.read_row.Goals as goal

pub returns-in-Some : goal.returns-in-Some
returns-in-Some g c = row-closed c.loop.invariant.0 c.in-Some.ensures

pub returns-in_err-past : goal.returns-in_err-past
returns-in_err-past g c = rw c.from_residual.ensures (reading-ends c.loop.invariant.0.reading c.in_default.ensures c.in_err-past.ensures)

pub returns-in_err-t : goal.returns-in_err-t
returns-in_err-t g c =
    let p = c.in_ok-past.ensures in
    rw c.from_residual-in_err-t.ensures (reading-fails c.loop.invariant.0.reading c.in_default.ensures (rw p.begins at p.read) (rw p.begins at c.in_err-t.ensures))

pub loop-preserved : goal.loop-preserved
loop-preserved g c = (row-more c.loop.invariant.0 (omega arith) c.in_default.ensures c.in_ok-past.ensures c.in_ok-t.ensures, c.loop.invariant.1)

pub returns-in_err-end : goal.returns-in_err-end
returns-in_err-end g c = rw c.from_residual-in_err-end.ensures (reading-full c.loop.invariant.0.reading (omega arith) c.in_err-end.ensures)

pub returns : goal.returns
returns g c = row-closed c.loop.invariant.0 c.in_ok-end.ensures
