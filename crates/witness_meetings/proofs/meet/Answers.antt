use Prim.Native.Nat.{ℕ, ◌+◌, ◌<◌}
use native.Mathlib.Omega.{arith}
use Rattle.limits.specs.Limits as limit
use Rattle.semantics.specs.Runs.{nobody}
use Rattle.model.specs.Records.{stage_at}
use Rattle.facts_candidates.specs.Choices.{chosen}
use Rattle.witness_meetings.proofs.Laws.{written_as, few-variables, shows-meets, chosen-below, behind-takes}
use Rattle.witness_meetings.proofs.meet.Goals as goal
use Rattle.witness_meetings.proofs.meet.Goals.{After-choose-c}

-- the objects of the chosen states have numbers
small : (c : After-choose-c) → let a = c.args in (x : ℕ) → x < (stage_at a.m a.k).variables → a.cast.base + chosen c.choose-c.result x < limit.objects
small c x l =
    let p = c.requires in
    let a = c.args in
    let e = c.choose-c.ensures in
    omega (arith, p.2.states, chosen-below a.m a.work.now a.s p.0 a.k p.3 c.choose-c.result e.0 e.1.0 e.2 x l)

pub behind-objects-requires : goal.behind-objects-requires
behind-objects-requires c = (few-variables c.args.m c.requires.0.model c.args.k c.requires.3, small (goal.at.behind-objects-requires c).After-choose-c)

pub gather-requires : goal.gather-requires
gather-requires c =
    let p = c.requires in
    (p.0.model, p.3, p.2.first, p.2.second, (λ x l. omega (arith, c.behind-objects.ensures x l, small (goal.at.gather-requires c).After-choose-c x l)), p.5)

pub returns : goal.returns
returns c =
    let p = c.requires in
    let a = c.args in
    let e = c.choose-c.ensures in
    written_as _ _ (λ ps q. (e.0, shows-meets a.m a.work.now a.s p.0 a.k p.3 e.0 e.1.0, e.1.1, q)) 1 a.run.now _ a.at _
    (c.gather.ensures nobody e.0 (behind-takes a.m p.0.model a.k p.3 a.cast _ _ e.0 e.2 c.behind-objects.ensures))
