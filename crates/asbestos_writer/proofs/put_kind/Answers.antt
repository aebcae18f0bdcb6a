-- `put_kind` meets its contract.
use Prim.Native.Nat.{suc}
use native.Mathlib.Omega.{arith}
use Rattle.listing_bytes.proofs.Writing.{after, kept}
use Rattle.asbestos_writer.proofs.Bytes.{receiving-long}
use Rattle.asbestos_writer.proofs.put_kind.Goals as goal

pub put_marked-requires : goal.put_marked-requires
put_marked-requires c =
    let l = c.put_level-sends.ensures in
    let r = c.put_receiving-receives.ensures in
    omega (arith, c.requires, l.next, kept l, r.next, kept r, receiving-long (suc c.args.k.receive))

pub returns : goal.returns
returns c = after (after c.put_level-sends.ensures c.put_receiving-receives.ensures) c.put_marked.ensures
