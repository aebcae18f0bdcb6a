use Rattle.std.proofs.Common.{◌≡◌, true, ℕ, ◌<◌, length, take, get_or, subst, arith, rules}
use Rattle.semantics.specs.Labels.{has}
use Rattle.model.specs.WellFormed.{declared_in}
use Rattle.model.proofs.Accepted.{stages}
use Rattle.replay_session.specs.Sessions.{Says}
use Rattle.replay_session.proofs.Fitting.{fits-says}
use Rattle.replay_session.proofs.fits.Goals as goal

pub relations_declared-requires : goal.relations_declared-requires
unfolding declared_in
relations_declared-requires c = omega (arith, c.declared_states.ensures, c.requires.relations.states)

pub returns-then-s-gt-OBJECTS : goal.returns-then-s-gt-OBJECTS
returns-then-s-gt-OBJECTS c = λ f. let q = stages c.args.m c.requires in absurd (omega (arith, f.objects, f.stages, f.places, c.then-s-gt-OBJECTS.either))

pub returns-then-carried_created : goal.returns-then-carried_created
unfolding declared_in
returns-then-carried_created c =
    fits-says c.args.m c.args.s c.relations_declared.result (search rules) c.if-s-gt-OBJECTS.false (let q = stages c.args.m c.requires in omega (arith, c.if-s-m.false)) c.if-s-gt-RUN.false c.if-carried_created.ensures
    (subst (λ (n : ℕ). Says ((o a : ℕ) → o < length (take c.args.s.objects c.args.s.states) → has (get_or (take c.args.s.objects c.args.s.states) o 0) a ≡ true → a < n) c.relations_declared.result) c.declared_states.ensures c.relations_declared.ensures)
