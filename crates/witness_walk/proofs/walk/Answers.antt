use mathlib.Core.Path.{subst}
use Prim.Native.Nat.{ℕ, suc, ◌-◌}
use native.Mathlib.Omega.{arith}
use Rattle.witness_walk.specs.Walk.{Behind}
use Rattle.witness_walk.proofs.Laws.{behind-start}
use Rattle.witness_walk.proofs.walk.Goals as goal
use Rattle.witness_walk.proofs.walk.Goals.{In-loop-k}

-- a level that is not the last of the walk, with the one before
behind : (c : In-loop-k) → let a = c.args in let l = c.loop-k in Behind a.m a.s a.cast a.until a.rows.now a.run.now l.run (suc (l.k - 1)) l.p.pair.first l.p.pair.second l.p.at
behind c =
    let a = c.args in
    let l = c.loop-k in
    subst (λ (n : ℕ). Behind a.m a.s a.cast a.until a.rows.now a.run.now l.run n l.p.pair.first l.p.pair.second l.p.at) (omega arith) l.invariant.1

pub loop-k-init : goal.loop-k-init
loop-k-init c =
    let p = c.requires in
    let a = c.args in
    (p.3, behind-start a.m a.work.now a.s a.rows.now a.moves.now.table a.moves.now.steps a.moves.now.ways p.0 a.cast a.until a.run.now p.3 a.goal.first a.goal.second p.4)

pub back-p-requires : goal.back-p-requires
back-p-requires c =
    let p = c.requires in
    let a = c.args in
    (p.0, p.1, p.2, omega (arith, p.5), (a.until, a.run.now, omega arith, behind (goal.at.back-p-requires c).In-loop-k))
