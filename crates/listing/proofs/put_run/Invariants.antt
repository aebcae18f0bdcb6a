-- After i turns the lines of the first i places are written.
use Prim.Native.Nat.{◌+◌, ◌*◌, ◌≤◌}
use lib.ListN.{take}
use Rattle.listing_bytes.specs.Writing.{Writes}
use Rattle.listing.specs.Report.{run_lines}
use Rattle.listing.proofs.put_run.Given as goal

abbrev pub invariant-loop-place : goal.invariant-loop-place
invariant-loop-place l = Writes l.initial.out l.at (run_lines (take l.place-index l.run)) l.next l.out × (l.next ≤ l.at + l.place-index * 24)
