use mathlib.Core.Path.{◌≡◌, refl, subst}
use mathlib.Core.Bool.{true}
use native.Mathlib.Omega.{arith}
use Prim.Native.Nat.{ℕ, ◌<◌}
use Rattle.std.specs.Prelude.{Option, None, Some, IsSome, unwrap_or}
use Rattle.facts_bits.specs.Bits.{in_row}
use Rattle.witness_walk.proofs.Laws.{written-length}
use Rattle.witness_meetings.proofs.Laws.{chosen-below}
use Rattle.witness_from.proofs.Stands.{ready_at}
use Rattle.witness_from.proofs.Laws.{opening-written}
use Rattle.witness_from.proofs.open_with.Goals as goal

-- a slot is some slot
some-slot : (o : Option ℕ) → unwrap_or o 255 < 255 → IsSome o
some-slot None l = absurd (omega (arith, l))
some-slot (Some v) l = refl

pub unwrap-to-requires : goal.unwrap-to-requires
unwrap-to-requires c =
    let p = c.requires in
    let a = c.args in
    let e = c.opening-c.ensures in
    let most = c.requires.0.proper.count in
    some-slot _ (omega (arith, chosen-below a.m a.work.now a.s p.0 0 p.0.model.one _ e.0 e.1.0.0 e.2 0 p.7, most))

pub meet_first-met-requires : goal.meet_first-met-requires
meet_first-met-requires c =
    let p = c.requires in
    let a = c.args in
    let e = c.opening-c.ensures in
    (p.0.model, p.5, (a.s, p.4, chosen-below a.m a.work.now a.s p.0 0 p.0.model.one _ e.0 e.1.0.0 e.2), omega (arith, p.9))

pub errand-then-requires : goal.errand-then-requires
errand-then-requires c =
    let p = c.requires in
    let a = c.args in
    let e = c.opening-c.ensures in
    let t = c.meet_first-met.ensures e.0 e.2 in
    let long = written-length _ _ _ _ _ _ t in (
      p.0.model,
      p.0.proper,
      p.0.found,
      p.1,
      omega arith,
      p.0.model.one,
      ready_at a.m a.s p.0.proper e.0 e.1.0.0.0 1 a.p.pair.second e.1.0.1.1,
      p.4.second,
      omega (arith, p.9, t.index, t.few),
    )

pub approach-at-requires : goal.approach-at-requires
approach-at-requires c =
    let p = c.requires in
    let a = c.args in
    let e = c.opening-c.ensures in
    let t = c.meet_first-met.ensures e.0 e.2 in
    let d = c.errand-then.ensures in
    let long = written-length _ _ _ _ _ _ t in
    let long-still = written-length _ _ _ _ _ _ d in (
      p.0.model,
      p.0.proper,
      p.0.found,
      p.1,
      ready_at a.m a.s p.0.proper e.0 e.1.0.0.0 0 a.p.pair.first e.1.0.1.0,
      p.4.first,
      omega (arith, p.9, t.index, t.few, d.index, d.few),
    )

pub lead-requires : goal.lead-requires
lead-requires c =
    let p = c.requires in
    let a = c.args in
    let e = c.opening-c.ensures in
    let t = c.meet_first-met.ensures e.0 e.2 in
    let d = c.errand-then.ensures in
    let f = c.approach-at.ensures in
    let long = written-length _ _ _ _ _ _ t in
    let long-still = written-length _ _ _ _ _ _ d in
    let long-yet = written-length _ _ _ _ _ _ f in
    let below = rw c.unwrap-to.ensures at (chosen-below a.m a.work.now a.s p.0 0 p.0.model.one _ e.0 e.1.0.0 e.2 0 p.7) in
    let most = c.requires.0.proper.count in (
      p.0.model,
      p.0.proper,
      p.1,
      (p.2.bits a.slot c.unwrap-to.result (omega (arith, below, most))).0 (subst (λ (v : ℕ). in_row a.moves.now.ways a.slot v ≡ true) (rw c.unwrap-to.ensures at (e.2 0 p.7)) e.1.1),
      p.5,
      omega (arith, p.9, t.index, t.few, d.index, d.few, f.index, f.few),
    )

pub returns : goal.returns
returns c =
    let p = c.requires in
    let a = c.args in
    let e = c.opening-c.ensures in
    opening-written a.m a.work.now a.s p.0 a.cast a.carried a.object a.slot a.p.pair.first a.p.pair.second _ e.0 e.1.0 (rw c.unwrap-to.ensures at (e.2 0 p.7)) a.run.now _ _ _ _ a.p.at _ _ _ _
    (c.meet_first-met.ensures e.0 e.2) c.errand-then.ensures c.approach-at.ensures c.lead.ensures
