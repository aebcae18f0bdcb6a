use Rattle.std.proofs.Common.{◌≡◌, length, rules, tests}
use Rattle.std.proofs.lemmas.Iterator.{cases_from_all, YieldsList-from_zip, YieldsList-from_slice}
use Rattle.replay_meetings.specs.Carried.{Agrees}
use Rattle.replay_meetings.proofs.Objects.{each-zipped}
use Rattle.replay_meetings.proofs.all_agree.Goals as goal

pub returns : goal.returns
returns c =
    let a = c.args in
    let carried : length a.carried ≡ 2 = search rules in
    let objects : length a.objects ≡ 2 = search rules in
    each-zipped Agrees a.carried a.objects c.all.result carried objects
    (cases_from_all c.all.new.self _ _ (λ p. Agrees p.0 p.1) (λ p. Agrees p.0 p.1 → ⊥) c.all.ensures.ran (YieldsList-from_zip (YieldsList-from_slice a.carried cc) (YieldsList-from_slice a.objects cc)) (λ x q k. search (rules, tests)) (λ x q k. search (rules, tests)))
