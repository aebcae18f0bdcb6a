-- `put_receiving` meets its contract.
use Rattle.listing_bytes.specs.Writing.{Writes}
use Rattle.asbestos_writer.specs.Parts.{receiving}
use Rattle.asbestos_writer.proofs.put_receiving.Given as goal

abbrev pub invariant-loop-k : goal.invariant-loop-k
invariant-loop-k l = Writes l.initial.out l.at (receiving l.k) l.next l.out
