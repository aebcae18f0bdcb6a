use Rattle.from_here_places.proofs.Laws.{stands}
use Rattle.from_here_places.proofs.stand.Goals as goal

pub returns : goal.returns
returns c =
    let a = c.args in
    let r = c.play_run-ending in
    rw (c.then_some.ensures, c.whole.ensures) (stands a.m a.places.now r.result.session r.result.answer r.ensures.replays.0 r.ensures.ends)
