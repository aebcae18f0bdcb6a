-- After i turns the names of the first i declared relations that are in the set are written.
use Prim.Native.Nat.{◌+◌, ◌*◌, ◌≤◌}
use Rattle.limits.specs.Limits as limit
use Rattle.listing_bytes.specs.Forms.{items}
use Rattle.listing_lines.specs.Lines.{names_in}
use Rattle.listing_bytes.specs.Writing.{Writes}
use Rattle.listing_lines.proofs.put_names.Given as goal

abbrev pub invariant-loop-i : goal.invariant-loop-i
invariant-loop-i l = Writes l.initial.out l.at (items (names_in l.text l.m l.set l.i)) l.next l.out × (l.next ≤ l.at + limit.states * (1 + limit.name))
