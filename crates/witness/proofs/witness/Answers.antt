use mathlib.Core.Path.{refl, sym}
use lib.Seq.{length-take-le}
use native.Mathlib.Omega.{arith}
use Rattle.witness_walk.proofs.Laws.{written-length, behind-index}
use Rattle.witness.proofs.Laws.{building-few, turn-fits, whole, shown}
use Rattle.witness.proofs.witness.Goals as goal

pub build-r-requires : goal.build-r-requires
build-r-requires c =
    let p = c.requires in
    let a = c.args in
    let h = c.walk-from.ensures in
    let few = c.requires.0.known.proper.count in (
      p.0.known.model,
      p.0.known.proper,
      p.0.known.found,
      omega arith,
      omega (arith, p.2, building-few a.m a.work.now a.s p.0.known 0, behind-index a.m a.work.now a.s a.rows.now a.moves.now.table a.moves.now.steps a.moves.now.ways p.0 _ 0 a.run.now _ _ _ _ _ h, written-length _ _ _ _ _ _ h.played),
    )

pub slice_bounds-reverse-end : goal.slice_bounds-reverse-end
slice_bounds-reverse-end c =
    let p = c.requires in
    let a = c.args in
    let h = c.walk-from.ensures in
    let e = c.build-r.ensures in
    turn-fits _ _ a.run.now _ _ (whole a.m a.work.now a.s a.rows.now a.moves.now.table a.moves.now.steps a.moves.now.ways p.0 a.run.now _ _ _ _ _ _ h e.0 e.1) (omega (arith, p.2))

pub slice_bounds-reverse-end-2 : goal.slice_bounds-reverse-end-2
slice_bounds-reverse-end-2 c =
    let p = c.requires in
    let a = c.args in
    let h = c.walk-from.ensures in
    let e = c.build-r.ensures in
    sym (length-take-le _ _ (turn-fits _ _ a.run.now _ _ (whole a.m a.work.now a.s a.rows.now a.moves.now.table a.moves.now.steps a.moves.now.ways p.0 a.run.now _ _ _ _ _ _ h e.0 e.1) (omega (arith, p.2))))

pub returns : goal.returns
returns c =
    let p = c.requires in
    let a = c.args in
    let h = c.walk-from.ensures in
    let e = c.build-r.ensures in
    shown a.m a.work.now a.s a.rows.now a.moves.now.table a.moves.now.steps a.moves.now.ways p.0 a.run.now _ _ (whole a.m a.work.now a.s a.rows.now a.moves.now.table a.moves.now.steps a.moves.now.ways p.0 a.run.now _ _ _ _ _ _ h e.0 e.1) (omega (arith, p.2)) _ (rw c.reverse.ensures.after refl)
