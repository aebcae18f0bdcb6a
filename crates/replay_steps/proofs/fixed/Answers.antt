use mathlib.Core.Path.{◌∙◌}
use native.Mathlib.Omega.{arith}
use Rattle.replay_steps.proofs.Steps.{only_one}
use Rattle.replay_steps.proofs.fixed.Goals as goal

pub returns-in-Next : goal.returns-in-Next
returns-in-Next c =
    let told = c.choose.ensures in
    let free = c.free-nobody.ensures in
    rw c.in-Next.is (c.if-o-n-2.true, only_one c.choose.result c.args.object (told 0 (omega arith)) (told 1 (omega arith) ∙ free 1) (told 2 (omega arith) ∙ free 2))
