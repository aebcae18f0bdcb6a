use Rattle.search_states.specs.States.{from}
use native.Mathlib.Omega.{arith}
use lib.ListN.{set, length-set}
use Prim.Native.Nat.{◌+◌, ◌<◌}
use Rattle.model.specs.declared.Place.TheVariants.{Step}
use Rattle.model.specs.Places.{numeral}
use Rattle.search_states.specs.States.{by}
use Rattle.witness_lineage.proofs.Making.{Made, made_none, made-room, trace-inside, first-room, trace-all, trace-more}
use Rattle.witness_lineage.proofs.trace.Goals as goal
use Rattle.witness_lineage.proofs.trace.Goals.{Else-born-i}

-- the state before is found, and made from it
before : (c : Else-born-i) → let a = c.args in let l = c.loop-i in let m = c.requires.0.0 in let s = a.s.now in
    (from s l.i < l.i) × Made m s a.state a.object a.k a.run.now (set l.run l.at (numeral (Step (by s l.i) a.object))) (from s l.i) (l.at + 1)
before c =
    let a = c.args in
    let q = c.requires.0 in
    let l = c.loop-i in
    trace-more q.0 a.s.now _ q.1 a.state a.object a.k a.run.now l.run l.i l.at c.requires.1 (l.invariant.3 q.0 q.1 q.2) c.if-born-i.false

pub loop-i-init : goal.loop-i-init
loop-i-init c =
    let a = c.args in
    let s = a.s.now in
    let q = c.requires.0 in
    let i = trace-inside q.0 s _ q.1 a.state q.2.0 in (
      first-room q.0 s _ q.1 a.state a.k a.run.now q.2,
      i.0,
      i.1,
      λ m anc h. made_none m anc.model s anc.proper anc.found a.state a.object a.k a.run.now h.0,
    )

pub returns-then-born-i : goal.returns-then-born-i
returns-then-born-i c =
    let a = c.args in
    let l = c.loop-i in
    λ m anc h.
    rw c.number_of.ensures
    (trace-all m a.s.now _ anc a.state a.object a.k a.run.now l.run l.i l.at c.requires.1 (l.invariant.3 m anc h) c.if-born-i.true)

pub loop-i-preserved : goal.loop-i-preserved
loop-i-preserved c =
    let a = c.args in
    let s = a.s.now in
    let q = c.requires.0 in
    let l = c.loop-i in
    let w = before (goal.at.loop-i-preserved c).Else-born-i in
    let i = trace-inside q.0 s _ q.1 _ w.1.inside in (
      simp length-set (omega (arith, made-room q.0 q.1.model s q.1.proper q.1.found a.state a.object a.k a.run.now _ _ _ w.1 q.2.1)),
      i.0,
      i.1,
      λ m anc h.
          rw c.number_of.ensures
          (trace-more m s _ anc a.state a.object a.k a.run.now l.run l.i l.at c.requires.1 (l.invariant.3 m anc h) c.if-born-i.false).1,
    )
