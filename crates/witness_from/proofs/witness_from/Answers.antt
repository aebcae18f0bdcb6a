use mathlib.Core.Path.{◌≡◌, refl, sym, ap, ◌∙◌, subst}
use mathlib.Core.Bool.{Bool}
use Prim.Native.Nat.{ℕ}
use native.Mathlib.Omega.{arith}
use lib.Seq.{length-take-le}
use Rattle.witness_meetings.specs.declared.Cast.{Cast}
use Rattle.witness_meetings.specs.Meetings.{Written, Numbered}
use Rattle.witness_walk.specs.Walk.{Behind}
use Rattle.witness_walk.proofs.Laws.{written-length}
use Rattle.witness.proofs.Laws.{building-few, turn-fits}
use Rattle.witness_from.specs.From.{first_carried, cast_from, Opening, opened}
use Rattle.witness_from.proofs.Laws.{numbered, opening-index, whole, shown}
use Rattle.witness_from.proofs.witness_from.Goals as goal
use Rattle.witness_from.proofs.witness_from.Goals.{After-open_with-at, After-walk-p}

-- the cast, by whether the variable is carried
same : (existing n object : ℕ) (r : Cast) (d e : Bool) → r ≡ cast_from d existing n object → d ≡ e → r ≡ cast_from e existing n object
same existing n object r d e q h = q ∙ ap (λ (b : Bool). cast_from b existing n object) h

-- what is written of the walk
behind : (c : After-walk-p) → let a = c.args in let q = c.walk-p.result in
    Behind a.m a.s (cast_from (first_carried a.m) a.existing a.s.count a.object) 1 a.rows.now a.run.now c.walk-p.new.run 1 q.pair.first q.pair.second q.at
behind c =
    let a = c.args in
    let q = c.walk-p.result in
    subst (λ (d : Cast). Behind a.m a.s d 1 a.rows.now a.run.now c.walk-p.new.run 1 q.pair.first q.pair.second q.at) (same a.existing a.s.count a.object _ _ _ c.cast-roles.ensures c.first_carried-carried.ensures) c.walk-p.ensures

pub open_with-at-requires : goal.open_with-at-requires
open_with-at-requires c =
    let p = c.requires in
    let a = c.args in
    let h = behind (goal.at.open_with-at-requires c).After-walk-p in
    let most = c.requires.0.known.proper.count in (
      p.0.known,
      p.0.mapped,
      p.0.comes,
      c.slots-slots.ensures,
      subst (Numbered a.s) (sym (same a.existing a.s.count a.object _ _ _ c.cast-roles.ensures c.first_carried-carried.ensures)) (numbered a.m a.work.now a.s p.0.known p.3 a.existing a.object a.slot p.4 p.5),
      omega (arith, p.4, p.5),
      p.6,
      p.3,
      p.2 _ _ h.sits,
      omega (arith, p.7, ap (opened a.m a.s) c.first_carried-carried.ensures, opening-index a.m a.work.now a.s p.0.known p.3 a.existing a.object a.slot p.4 p.5 a.rows.now a.run.now _ _ _ _ h, written-length _ _ _ _ _ _ h.played),
    )

-- what is written of the opening
opening : (c : After-open_with-at) → let a = c.args in let q = c.walk-p in
    Written (Opening a.m a.s (cast_from (first_carried a.m) a.existing a.s.count a.object) (first_carried a.m) a.object a.slot q.result.pair.first q.result.pair.second) (opened a.m a.s (first_carried a.m)) q.new.run q.result.at c.open_with-at.new.run c.open_with-at.result
opening c =
    let a = c.args in
    let q = c.walk-p in
    subst (λ (d : Bool). Written (Opening a.m a.s (cast_from (first_carried a.m) a.existing a.s.count a.object) d a.object a.slot q.result.pair.first q.result.pair.second) (opened a.m a.s d) q.new.run q.result.at c.open_with-at.new.run c.open_with-at.result) c.first_carried-carried.ensures
    (subst (λ (r : Cast). Written (Opening a.m a.s r c.first_carried-carried.result a.object a.slot q.result.pair.first q.result.pair.second) (opened a.m a.s c.first_carried-carried.result) q.new.run q.result.at c.open_with-at.new.run c.open_with-at.result) (same a.existing a.s.count a.object _ _ _ c.cast-roles.ensures c.first_carried-carried.ensures) c.open_with-at.ensures)

pub build-r-requires : goal.build-r-requires
build-r-requires c =
    let p = c.requires in
    let a = c.args in
    let h = behind (goal.at.build-r-requires c).After-walk-p in
    let o = opening (goal.at.build-r-requires c).After-open_with-at in
    let most = c.requires.0.known.proper.count in (
      p.0.known.model,
      p.0.known.proper,
      p.0.known.found,
      omega (arith, p.4),
      omega (arith, p.7, building-few a.m a.work.now a.s p.0.known a.existing, opening-index a.m a.work.now a.s p.0.known p.3 a.existing a.object a.slot p.4 p.5 a.rows.now a.run.now _ _ _ _ h, o.index, o.few, written-length _ _ _ _ _ _ h.played, written-length _ _ _ _ _ _ o),
    )

pub slice_bounds-reverse-end : goal.slice_bounds-reverse-end
slice_bounds-reverse-end c =
    let p = c.requires in
    let a = c.args in
    let e = c.build-r.ensures in
    let four = c.requires.0.known.model.stages in
    turn-fits _ _ a.run.now _ _ (whole a.m a.work.now a.s p.0.known p.3 a.existing a.object a.slot p.4 p.5 a.rows.now a.run.now _ _ _ _ (behind (goal.at.slice_bounds-reverse-end c).After-walk-p) _ _ _ _ (opening (goal.at.slice_bounds-reverse-end c).After-open_with-at) e.0 e.1) (omega (arith, p.7))

pub slice_bounds-reverse-end-2 : goal.slice_bounds-reverse-end-2
slice_bounds-reverse-end-2 c =
    let p = c.requires in
    let a = c.args in
    let e = c.build-r.ensures in
    let four = c.requires.0.known.model.stages in
    sym (length-take-le _ _ (turn-fits _ _ a.run.now _ _ (whole a.m a.work.now a.s p.0.known p.3 a.existing a.object a.slot p.4 p.5 a.rows.now a.run.now _ _ _ _ (behind (goal.at.slice_bounds-reverse-end-2 c).After-walk-p) _ _ _ _ (opening (goal.at.slice_bounds-reverse-end-2 c).After-open_with-at) e.0 e.1) (omega (arith, p.7))))

pub returns : goal.returns
returns c =
    let p = c.requires in
    let a = c.args in
    let e = c.build-r.ensures in
    let four = c.requires.0.known.model.stages in
    shown a.m a.work.now a.s p.0.known p.3 a.existing a.object a.slot p.4 p.5 a.run.now _ _ (whole a.m a.work.now a.s p.0.known p.3 a.existing a.object a.slot p.4 p.5 a.rows.now a.run.now _ _ _ _ (behind (goal.at.returns c).After-walk-p) _ _ _ _ (opening (goal.at.returns c).After-open_with-at) e.0 e.1) (omega (arith, p.7)) _ (rw c.reverse.ensures.after refl)
