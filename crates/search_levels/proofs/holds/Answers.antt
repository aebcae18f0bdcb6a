use Rattle.search_levels.proofs.Passing.{fixed-both}
use Rattle.search_levels.proofs.holds.Goals as goal

pub returns : goal.returns
returns c =
    let r = c.requires.0 in
    let a = c.args in
    λ S R n.
    let told = c.pointed.ensures S R n in
    let law = fixed-both c.free-free.result c.seated-one.result c.seated-both.result a.t.first a.t.second a.t.variables a.e a.f r.asked.body.body.few r.first r.second r.apart c.free-free.ensures c.seated-one.ensures c.seated-both.ensures in
    ((λ q. let z = told.0 q in let y = (law z.0).0 z.2 in (z.0, z.1, y.0, y.1, z.3)), λ q. told.1 (q.0, q.1, (law q.0).1 (q.2, q.3), q.4))
