use Prim.Native.Nat.{◌≤◌}
use Rattle.strike_list.specs.Lists.{listed}
use Rattle.cure.specs.Soonest.{size_at}
use Rattle.cure.proofs.Scans.{Scanned}
use Rattle.cure.proofs.smallest.Given as goal

abbrev pub invariant-loop-i : goal.invariant-loop-i
invariant-loop-i l = (l.fn.t.total ≤ 1024) × Scanned (size_at (listed l.l) l.fn.t.said) l.fn.t.total l.i l.best l.least
