-- After i turns the lines of the first i states are written.
use Prim.Native.Nat.{◌+◌, ◌*◌, ◌≤◌}
use lib.ListN.{take}
use Rattle.listing_bytes.specs.Writing.{Writes}
use Rattle.listing_lines.specs.Lines.{longest}
use Rattle.listing.specs.Report.{state_lines}
use Rattle.listing.proofs.put_states.Given as goal

abbrev pub invariant-loop-set : goal.invariant-loop-set
invariant-loop-set l = Writes l.initial.out l.at (state_lines l.text l.m (take l.set-index l.states)) l.next l.out × (l.next ≤ l.at + l.set-index * longest)
