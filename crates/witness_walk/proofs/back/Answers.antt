use Prim.Native.Nat.{suc, ◌+◌, ◌*◌, ◌≤◌}
use native.Mathlib.Omega.{arith}
use Rattle.limits.specs.Limits as limit
use Rattle.search_levels.specs.Levels.{holder, chosen}
use Rattle.witness_walk.specs.Walk.{Behind}
use Rattle.witness_walk.proofs.Laws.{written-length, effort-most, came_from, came-met, ready-first, behind-index, behind-back}
use Rattle.witness_walk.proofs.back.Goals as goal
use Rattle.witness_walk.proofs.back.Goals.{Start}

-- what is behind the pair
behind : (c : Start) → let a = c.args in Behind a.m a.s a.cast c.requires.4.0 a.rows.now c.requires.4.1 a.run.now (suc a.k) a.p.pair.first a.p.pair.second a.p.at
behind c = c.requires.4.3

-- there is room for the places
room : (c : Start) → c.args.p.at ≤ limit.carried * limit.walked + limit.stages
room c = let p = c.requires in let a = c.args in behind-index a.m a.work.now a.s a.rows.now a.moves.now.table a.moves.now.steps a.moves.now.ways p.0 a.cast p.4.0 p.4.1 a.run.now (suc a.k) a.p.pair.first a.p.pair.second a.p.at p.4.3

pub previous-q-requires : goal.previous-q-requires
previous-q-requires c =
    let p = c.requires in
    let a = c.args in
    let h = behind (goal.at.previous-q-requires c).Start in
    (p.0.known.model, h.level, h.sits.0, h.sits.1, came_from a.m a.work.now a.s a.rows.now a.moves.now.table a.moves.now.steps a.moves.now.ways p.0 a.k a.p.pair.first a.p.pair.second h.level h.sits)

pub meet-met-requires : goal.meet-met-requires
meet-met-requires c =
    let p = c.requires in
    let a = c.args in
    let h = behind (goal.at.meet-met-requires c).Start in (
      p.0.known,
      p.1,
      p.2,
      h.level,
      came-met a.m a.work.now a.s a.rows.now a.moves.now.table a.moves.now.steps a.moves.now.ways p.0 a.k a.p.pair.first a.p.pair.second h.level h.sits,
      omega (arith, room (goal.at.meet-met-requires c).Start, p.3),
    )

pub errand-at-requires : goal.errand-at-requires
errand-at-requires c =
    let p = c.requires in
    let a = c.args in
    let h = behind (goal.at.errand-at-requires c).Start in
    let few = c.requires.0.known.proper.count in
    let q = c.previous-q in
    let t = c.meet-met.ensures in
    let d = c.errand-then.ensures in
    let long = written-length _ _ _ _ _ _ t in
    let long-still = written-length _ _ _ _ _ _ d in (
      p.0.known.model,
      p.0.known.proper,
      p.0.known.found,
      p.0.mapped,
      omega arith,
      h.level,
      ready-first a.m a.work.now a.s a.rows.now a.moves.now.table a.moves.now.steps a.moves.now.ways p.0 a.k a.p.pair.first a.p.pair.second h.level h.sits q.result.first q.result.second q.ensures,
      p.2.first,
      omega (arith, room (goal.at.errand-at-requires c).Start, p.3, t.index, t.few, d.index, d.few, effort-most a.s.count (holder a.m 1 a.k) (chosen a.m 1 a.k)),
    )

pub returns : goal.returns
returns c =
    let p = c.requires in
    let a = c.args in
    let q = c.previous-q in
    λ until run₀ above h. behind-back a.m a.work.now a.s a.rows.now a.moves.now.table a.moves.now.steps a.moves.now.ways p.0 a.cast until run₀ a.run.now _ _ _ a.k a.p.pair.first a.p.pair.second q.result.first q.result.second a.p.at _ _ _ above h q.ensures
    c.meet-met.ensures c.errand-then.ensures c.errand-at.ensures
