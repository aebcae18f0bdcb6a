use Rattle.game_stage.proofs.Laws.{fixed-one}
use Rattle.game_stage.proofs.meets.Goals as goal

pub returns : goal.returns
returns c =
    let k = c.choose-fixed in
    λ S R n.
    let told = c.shows.ensures S R n in
    let law = fixed-one c.free-free.result k.result c.args.e k.ensures in (
      (λ q. let z = told.0 q in (z.0, (law z.0).0 z.2, z.1)),
      λ q. told.1 (q.0, q.2, (law q.0).1 q.1),
    )
