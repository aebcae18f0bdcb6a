use mathlib.Core.Path.{◌≡◌}
use Prim.Native.Nat.{◌≤◌}
use lib.ListN.{length}
use Rattle.limits.specs.Limits as limit
use Rattle.handin.proofs.Laws.{PrefaceSo}
use Rattle.handin.proofs.preface_end.Given as goal

abbrev pub invariant-loop-said : goal.invariant-loop-said
invariant-loop-said l = (length l.left ≤ limit.handin) × (l.start.left.now ≡ l.lines.left.now) × PrefaceSo l.left l.lines.left.now l.start.line

abbrev pub decreases-loop-said : goal.decreases-loop-said
decreases-loop-said l = length l.lines.left.now
