use Prim.Native.Nat.{◌+◌, ◌≤◌}
use Rattle.limits.specs.Limits as limit
use Rattle.handin.proofs.Laws.{RunSo}
use Rattle.handin.proofs.read_places.Given as goal

abbrev pub invariant-loop-line : goal.invariant-loop-line
invariant-loop-line l = (l.first ≤ limit.handin + 2) × RunSo l.left l.line-iterator.left.now l.places
