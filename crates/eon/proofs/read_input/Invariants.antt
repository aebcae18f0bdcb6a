-- What was read is the front of the buffer, and each turn reads a byte or more.
use Rattle.std.proofs.Common.{◌-◌, ◌≤◌, length}
use Rattle.eon.proofs.read_input.Given as goal

abbrev pub invariant-loop-done : goal.invariant-loop-done
invariant-loop-done g l = l.done ≤ length l.text

abbrev pub decreases-loop-done : goal.decreases-loop-done
decreases-loop-done g l = length l.text - l.done
