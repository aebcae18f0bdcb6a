-- `listing::verdict_line` meets its contract.
use Rattle.listing_bytes.proofs.Writing.{whole-line}
use Rattle.listing_lines.specs.Lines.{verdict_line}
use Rattle.listing_lines.proofs.verdict_line.Goals as goal

pub returns-then-reached : goal.returns-then-reached
unfolding verdict_line
returns-then-reached c =
    let e = c.if-reached.true in
    rw e (whole-line c.put_bytes.ensures)

pub returns-else-reached : goal.returns-else-reached
unfolding verdict_line
returns-else-reached c =
    let e = c.if-reached.false in
    rw e (whole-line c.put_bytes-else-reached.ensures)
