use native.Mathlib.Numerals.{add-one}
use native.Mathlib.Omega.{arith}
use Rattle.listing_bytes.proofs.Writing.{after, kept}
use Rattle.asbestos_writer.proofs.Bytes.{receiving-long}
use Rattle.asbestos_writer.proofs.put_receiving.Goals as goal

pub put_level-next-requires : goal.put_level-next-requires
put_level-next-requires c =
    let l = c.loop-k in
    (omega (arith, c.requires), omega (arith, c.requires, l.invariant.next, kept l.invariant, receiving-long l.k))

pub loop-k-preserved : goal.loop-k-preserved
loop-k-preserved c =
    let l = c.loop-k in
    rw (add-one l.k) (after l.invariant c.put_level-next.ensures)
