-- `put_table` meets its contract.
use Rattle.listing_bytes.specs.Writing.{Writes}
use Prim.Native.Nat.{ℕ}
use Rattle.asbestos.specs.Desk.{each}
use Rattle.asbestos_forms.specs.Forms.{row_forms, printed}
use Rattle.asbestos_writer.proofs.put_table.Given as goal

abbrev pub invariant-loop-a : goal.invariant-loop-a
invariant-loop-a l = Writes l.initial.out l.at (printed (each l.a (λ (a : ℕ). row_forms l.port a))) l.next l.out
