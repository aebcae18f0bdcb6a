use native.Mathlib.Omega.{arith}
use borrow.Author.Count.{below_more}
use Rattle.search_ways.proofs.Nearest.{denied}
use Rattle.witness_walk.proofs.Sources.{pair_found}
use Rattle.witness_walk.proofs.previous.Goals as goal
use Rattle.witness_walk.proofs.previous.Goals.{else-goes, then-goes+in_default}

pub loop-v-preserved : goal.loop-v-preserved
loop-v-preserved c = below_more _ _ c.loop-v.invariant (elim (c.if-goes.branch) [ then-goes+in_default w ↦ λ h. w.in_default.ensures h.0 h.1 h.2 | else-goes w ↦ λ h. denied c.goes.result _ c.goes.ensures w.if-goes.false h.3 ])

pub unreachable-requires : goal.unreachable-requires
unreachable-requires c =
    let a = c.args in
    let q = c.requires.4 in
    let r = c.requires.4.2 in
    let h = pair_found a.m a.rows.now a.ways.now a.k a.first a.second _ _ _ _ c.holds-first_stands.ensures c.holds-second_stands.ensures c.carries-first_began.ensures c.carries-second_began.ensures q.0 q.1 r in
    c.loop-v.invariant q.1 (omega (arith, r.0.1)) (q.0, r.0.0, h.0, h.1)
