-- `put_row` meets its contract.
use Rattle.listing_bytes.specs.Writing.{Writes}
use Prim.Native.Nat.{ℕ}
use Rattle.asbestos.specs.Desk.{each}
use Rattle.asbestos_forms.specs.Forms.{entry_forms, printed}
use Rattle.asbestos_writer.proofs.put_row.Given as goal

abbrev pub invariant-loop-b : goal.invariant-loop-b
invariant-loop-b l = Writes l.initial.out l.at (printed (each l.b (λ (b : ℕ). entry_forms l.a b))) l.next l.out
