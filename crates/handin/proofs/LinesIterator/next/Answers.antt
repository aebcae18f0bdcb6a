use mathlib.Core.Path.{sym}
use Prim.Native.Nat.{◌≤◌}
use native.Mathlib.Omega.{arith}
use lib.ListN.{length}
use lib.Seq.{length-take-le}
use borrow.Author.Tests.{eqb-false}
use Rattle.handin.proofs.Laws.{first-end, front}
use Rattle.handin.proofs.LinesIterator.next.Goals as goal

pub slice_bounds-result-end : goal.slice_bounds-result-end
slice_bounds-result-end c = let s = c.args.self.now.left.now in let h : c.line_end-end.result ≤ length s = omega (arith, c.line_end-end.ensures, first-end s) in omega (arith, h, length-take-le c.line_end-end.result s h)

pub returns-clause-steps : goal.returns-clause-steps
returns-clause-steps c = front c.args.self.now.left.now (eqb-false _ 0 (sym c.if-is_empty.ensures)) c.line_end-end.ensures c.behind-self.ensures
