use mathlib.Core.Path.{◌≡◌, refl, sym, ◌∙◌}
use mathlib.Core.Bool.{true, false}
use native.Mathlib.Omega.{arith}
use Rattle.search_levels.specs.Levels.{holder, chosen}
use Rattle.witness_walk.proofs.Errands.{stay-written, making-few, making-written, ready-as, errand-as}
use Rattle.witness_walk.proofs.errand.Goals as goal
use Rattle.witness_walk.proofs.errand.Goals.{Else-not-holds, Then-not-carries, Then-not-holds}

-- whether the variable stands in the stage, and whether it stood in one before
without : (c : Then-not-holds) → let a = c.args in holder a.m a.v a.k ≡ false
without c = sym c.holds.ensures ∙ c.if-not-holds.true

has : (c : Else-not-holds) → let a = c.args in holder a.m a.v a.k ≡ true
has c = sym c.holds.ensures ∙ c.if-not-holds.false

nothing : (c : Then-not-carries) → let a = c.args in chosen a.m a.v a.k ≡ false
nothing c = sym c.carries.ensures ∙ c.if-not-carries.true

pub returns-then-not-holds : goal.returns-then-not-holds
returns-then-not-holds c =
    let a = c.args in
    errand-as a.m a.s a.from a.to _ _ false (chosen a.m a.v a.k) (without c) refl a.object a.run.now a.run.now a.at a.at
    (stay-written a.m a.s a.object a.from a.to (chosen a.m a.v a.k) a.run.now a.at)

pub make-requires : goal.make-requires
make-requires c =
    let p = c.requires in
    let a = c.args in
    let inside = ready-as a.m a.s a.from a.to _ _ true false (has (goal.at.make-requires c).Else-not-holds) (nothing (goal.at.make-requires c).Then-not-carries) p.6 in
    (p.0, p.1, p.2, inside, p.7, omega (arith, p.8, making-few a.m a.s p.1 p.2 a.to inside))

pub returns-then-not-carries : goal.returns-then-not-carries
returns-then-not-carries c =
    let p = c.requires in
    let a = c.args in
    let t = c.make in
    let inside = ready-as a.m a.s a.from a.to _ _ true false (has (goal.at.returns-then-not-carries c).Else-not-holds) (nothing (goal.at.returns-then-not-carries c).Then-not-carries) p.6 in
    errand-as a.m a.s a.from a.to _ _ true false (has (goal.at.returns-then-not-carries c).Else-not-holds) (nothing (goal.at.returns-then-not-carries c).Then-not-carries) a.object a.run.now _ a.at t.result
    (making-written a.m a.s a.object a.from a.to p.0 p.1 p.2 inside p.7 a.run.now _ a.at t.result t.ensures.0 t.ensures.1)
