-- `put_exactly` meets its contract.
use borrow.Author.Tests.{ne_eqb}
use Rattle.listing_bytes.proofs.Writing.{after}
use Rattle.asbestos_writer.proofs.put_exactly.Goals as goal

pub returns : goal.returns
returns c =
    let a = c.args in
    rw (ne_eqb a.level 4 c.if-level-eq4.false) (after c.put_level-above.ensures c.put_bytes-2.ensures)
