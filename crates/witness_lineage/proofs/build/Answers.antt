use mathlib.Core.Path.{subst}
use Prim.Native.Nat.{ℕ, suc, ◌+◌, ◌-◌, ◌≤◌}
use lib.ListN.{length}
use Rattle.model.specs.declared.Model.{Model}
use native.Mathlib.Omega.{arith}
use Rattle.witness_lineage.specs.Lineage.{building, Ancestry}
use Rattle.witness_lineage.proofs.Making.{Built, built-none, built-room, built-more}
use Rattle.witness_lineage.proofs.build.Goals as goal
use Rattle.witness_lineage.proofs.build.Goals.{After-firsts-born, In-loop-n}

ancestry : (c : After-firsts-born) → Ancestry c.args.m c.args.s c.firsts-born.result
ancestry c = let p = c.requires in record { model = p.0; proper = p.1; found = p.2; born = c.firsts-born.ensures }

pub loop-n-init : goal.loop-n-init
loop-n-init c = let a = c.args in λ m anc r. built-none m a.s a.base a.k a.run.now

-- the states from number n - 1 on are to be made yet
so : (c : In-loop-n) → let a = c.args in (m : Model) → Ancestry m a.s c.firsts-born.result → a.k + length (building m a.s a.base a.s.count) ≤ length a.run.now → Built m a.s a.base a.k a.run.now c.loop-n.run (suc (c.loop-n.n - 1)) c.loop-n.at
so c m anc q =
    let a = c.args in
    let l = c.loop-n in
    subst (λ (n : ℕ). Built m a.s a.base a.k a.run.now l.run n l.at) (omega arith) (l.invariant m anc q)

pub trace-at-requires : goal.trace-at-requires
trace-at-requires c =
    let a = c.args in
    let p = c.requires in
    let anc = ancestry (goal.at.trace-at-requires c).After-firsts-born in
    let r = built-room a.m a.s a.base a.k a.run.now c.loop-n.run (c.loop-n.n - 1) c.loop-n.at (so (goal.at.trace-at-requires c).In-loop-n a.m anc p.4) p.4 in
    ((a.m, anc, (omega arith, omega (arith, r))), omega (arith, p.3))

pub loop-n-preserved : goal.loop-n-preserved
loop-n-preserved c =
    let a = c.args in
    let l = c.loop-n in
    λ m anc q.
    let h = so (goal.at.loop-n-preserved c).In-loop-n m anc q in
    let r = built-room m a.s a.base a.k a.run.now l.run (l.n - 1) l.at h q in
    let made = c.trace-at.ensures m anc (omega arith, omega (arith, r)) in
    built-more m a.s a.base a.k a.run.now l.run (l.n - 1) l.at h _ _ made.0 made.1
