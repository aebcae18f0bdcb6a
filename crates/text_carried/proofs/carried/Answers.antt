use native.Mathlib.Omega.{arith}
use Prim.Native.Nat.{◌<◌}
use Rattle.text_carried.proofs.Collecting.{collected-skip, collected-mark, collected-many, collected-all}
use borrow.Author.Rules.{rules}
use Rattle.text_carried.proofs.carried.Goals as goal
use Rattle.text_carried.proofs.carried.Goals.{else-v, then-v+else-found-eq-CARRIED}

pub returns-then-found-eq-CARRIED : goal.returns-then-found-eq-CARRIED
returns-then-found-eq-CARRIED c = collected-many _ c.loop-i.invariant (omega arith) c.if-v.true c.if-found-eq-CARRIED.true

pub loop-i-preserved : goal.loop-i-preserved
loop-i-preserved c =
    let v = c.loop-i.invariant in
    let h : c.loop-i.i < 12 = omega arith in
    elim (c.if-v.branch) [ then-v+else-found-eq-CARRIED w ↦ rw (w.found-is, w.cells-is) (collected-mark _ v h w.if-v.true (omega (arith, v.few, w.if-found-eq-CARRIED.false))) | else-v w ↦ rw (w.found-is, w.cells-is) (collected-skip _ v h w.if-v.false) ]

pub returns : goal.returns
returns c = collected-all _ c.loop-i.invariant (search rules)
