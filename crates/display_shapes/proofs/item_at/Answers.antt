use mathlib.Core.Path.{◌≡◌}
use Prim.Native.Nat.{◌+◌, ◌-◌}
use native.Mathlib.Omega.{arith}
use Rattle.display_shapes.proofs.Rows.{walking-more, walking-last}
use Rattle.display_shapes.proofs.item_at.Goals as goal

pub loop-turn-preserved : goal.loop-turn-preserved
loop-turn-preserved g c =
    let e : c.args.k - (c.loop-turn._turn + 1) ≡ c.args.k - c.loop-turn._turn - 1 = omega arith in
    rw e (walking-more c.loop-turn.invariant c.in_ok-i.ensures (omega arith))

pub returns : goal.returns
returns g c = walking-last c.loop-turn.invariant (omega arith) c.item_behind-2.result c.item_behind-2.ensures
