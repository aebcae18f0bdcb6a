use mathlib.Core.Path.{◌≡◌}
use native.Mathlib.Omega.{arith}
use lib.ListN.{length}
use lib.Seq.{length-take-le}
use Rattle.limits.specs.Limits as limit
use Rattle.witness_walk.proofs.Errands.{way-few, way-numerable, way-written}
use borrow.Author.Rules.{rules}
use Rattle.witness_walk.proofs.lead.Goals as goal
use Rattle.witness_walk.proofs.lead.Goals.{After-way-n}

-- the lines have their room still
long : (c : After-way-n) → length c.way-n.new.out ≡ limit.listed
long c = search rules

pub tell-requires : goal.tell-requires
tell-requires c =
    let w = c.way-n in
    let l = long (goal.at.tell-requires c).After-way-n in
    let a = c.args in
    let p = c.requires in
    let count = length-take-le w.result w.new.out (omega (arith, way-few a.m p.0 a.s p.1 a.from a.to a.object p.4 _ _ w.result w.ensures, p.1.count)) in
    let few = way-few a.m p.0 a.s p.1 a.from a.to a.object p.4 _ _ w.result w.ensures in
    (way-numerable a.m p.0 a.s p.1 a.from a.to a.object p.4 _ _ w.result w.ensures, omega (arith, p.5, count))

pub returns : goal.returns
returns c =
    let w = c.way-n in
    let l = long (goal.at.returns c).After-way-n in
    let a = c.args in
    let p = c.requires in
    let t = c.tell in
    let count = length-take-le w.result w.new.out (omega (arith, way-few a.m p.0 a.s p.1 a.from a.to a.object p.4 _ _ w.result w.ensures, p.1.count)) in
    let few = way-few a.m p.0 a.s p.1 a.from a.to a.object p.4 _ _ w.result w.ensures in
    way-written a.m p.0 a.s p.1 a.from a.to a.object p.4 _ _ w.result w.ensures (omega (arith, p.1.count)) a.run.now t.new.run a.at t.result (omega (arith, t.ensures.0, count)) t.ensures.1
