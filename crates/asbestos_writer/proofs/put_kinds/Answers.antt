use native.Mathlib.Omega.{arith}
use Rattle.listing_bytes.proofs.Writing.{kept}
use Rattle.asbestos_writer.proofs.Checks.{kind-proper, kinds-room, written-kind}
use Rattle.asbestos_writer.proofs.put_kinds.Goals as goal

pub put_kind-next-requires : goal.put_kind-next-requires
put_kind-next-requires c =
    let p = c.requires in
    let a = c.args in
    let l = c.loop-i in
    let h = kind-proper a.kinds.now a.count p.1 l.i (omega arith) in
    let k = c.kind_of.ensures in
    (rw k.send h.0, rw k.receive h.1, omega (arith, p.0, p.2, l.invariant.next, kept l.invariant, kinds-room a.kinds.now a.count p.1 l.i (omega arith)))

pub loop-i-preserved : goal.loop-i-preserved
loop-i-preserved c =
    let p = c.requires in
    let a = c.args in
    let l = c.loop-i in
    let k = c.kind_of.ensures in
    written-kind a.kinds.now a.count p.1 l.i (omega arith) l.invariant (rw (k.send, k.receive, k.mark) at c.put_kind-next.ensures)
