use native.Mathlib.Omega.{arith}
use Rattle.listing_bytes.proofs.Writing.{kept}
use Prim.Native.Nat.{ℕ}
use Rattle.asbestos_forms.specs.Forms.{row_forms}
use Rattle.asbestos_writer.proofs.Bytes.{table-short, written-each}
use Rattle.asbestos_writer.proofs.put_table.Goals as goal

pub put_row-next-requires : goal.put_row-next-requires
put_row-next-requires c =
    let l = c.loop-a in
    (c.requires.0, omega arith, omega (arith, c.requires, l.invariant.next, kept l.invariant, table-short c.args.port c.requires.0 l.a (omega arith)))

pub loop-a-preserved : goal.loop-a-preserved
loop-a-preserved c =
    let l = c.loop-a in
    written-each l.a (λ (a : ℕ). row_forms c.args.port a) l.invariant c.put_row-next.ensures
