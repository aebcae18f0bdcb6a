use native.Mathlib.Omega.{arith}
use Rattle.lines.specs.Lines.{recorded}
use Rattle.lines.proofs.describe.Goals as goal

-- src/lib.rt:11:1
pub returns-in-Rule : goal.returns-in-Rule
unfolding recorded
returns-in-Rule c = let e = c.in-Rule.is in rw e (omega arith)

-- src/lib.rt:11:1
pub returns-in-New : goal.returns-in-New
unfolding recorded
returns-in-New c = let e = c.in-New.is in rw e (omega arith)

-- src/lib.rt:11:1
pub returns-in-Next : goal.returns-in-Next
unfolding recorded
returns-in-Next c = let e = c.in-Next.is in rw e (omega arith)
