use Rattle.std.proofs.Common.{◌≡◌, ◌≢◌, ◌/◌, ◌^◌, rules, tests}
use Rattle.std.proofs.lemmas.Iterator.{cases_from_all, YieldsList-from_slice}
use Rattle.replay_session.proofs.Relations.{shifted-says}
use Rattle.replay_session.proofs.relations_declared.Goals as goal

pub returns : goal.returns
returns c =
    shifted-says _ _ _ (cases_from_all _ _ _ (λ s. s / 2 ^ c.args.n ≡ 0) (λ s. s / 2 ^ c.args.n ≢ 0) c.all.ensures.ran (YieldsList-from_slice c.args.states.now cc) (λ x q k. search (rules, tests)) (λ x q k. search (rules, tests)))
