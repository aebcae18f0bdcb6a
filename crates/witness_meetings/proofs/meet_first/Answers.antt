use Prim.Native.Nat.{◌+◌}
use Rattle.semantics.specs.Runs.{nobody}
use Rattle.semantics.specs.Building.{follows}
use Rattle.witness_meetings.specs.Meetings.{first_variable}
use Rattle.witness_meetings.proofs.Laws.{names-acting, behind-takes}
use Rattle.witness_meetings.proofs.meet_first.Goals as goal

pub returns : goal.returns
returns c =
    let p = c.requires in
    let a = c.args in
    λ σ chooses. c.gather.ensures (follows (first_variable a.m) a.object) σ
    (names-acting a.m p.0 0 p.0.one (first_variable a.m) a.object _ _ c.name_first-objects.ensures (λ o. a.cast.base + o) nobody σ
    (behind-takes a.m p.0 0 p.0.one a.cast a.c _ σ chooses c.behind-others.ensures))
