use Rattle.explain.proofs.why.Goals as goal

pub why_place-requires : goal.why_place-requires
why_place-requires c = rw c.position.ensures (c.sight-v.result, c.args.s.states, c.sight-v.ensures.0)

pub returns : goal.returns
returns c =
    let v = c.sight-v in
    ((rw c.position.ensures at c.why_place.ensures) v.result c.args.s.states v.ensures.0, v.ensures.1)
