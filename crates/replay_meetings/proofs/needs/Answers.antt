use Prim.Native.Nat.{◌-◌, ◌<◌}
use native.Mathlib.Omega.{arith}
use Rattle.model.specs.Records.{stage_at}
use Rattle.replay_meetings.proofs.Meetings.{codes-good}
use Rattle.replay_meetings.proofs.needs.Goals as goal

pub add-requires : goal.add-requires
add-requires c =
    let a = c.args in
    let here : a.stage - 1 < a.m.now.stagecount = omega (arith, c.if-stage-m.false) in
    ((stage_at a.m.now (a.stage - 1)).variables, rw c.body.ensures (codes-good a.m.now c.requires (a.stage - 1) here))
