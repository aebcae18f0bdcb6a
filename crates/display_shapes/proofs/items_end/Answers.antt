use mathlib.Core.Path.{◌≡◌}
use Prim.Native.Nat.{◌+◌, ◌-◌}
use native.Mathlib.Omega.{arith}
use Rattle.display_shapes.proofs.Laws.{going_more, going-closed, going-stops, going-last}
use Rattle.display_shapes.proofs.items_end.Goals as goal

pub returns-in-Some : goal.returns-in-Some
returns-in-Some g c = going-closed c.loop-turn.invariant c.in-Some.ensures

pub returns-in_err-i : goal.returns-in_err-i
returns-in_err-i g c = rw c.from_residual.ensures (going-stops c.loop-turn.invariant c.in_default.ensures c.in_err-i.ensures)

pub loop-turn-preserved : goal.loop-turn-preserved
loop-turn-preserved g c =
    let e : c.args.n - (c.loop-turn._turn + 1) ≡ c.args.n - c.loop-turn._turn - 1 = omega arith in
    rw e (going_more c.loop-turn.invariant (omega arith) c.in_default.ensures c.in_ok-i.ensures)

pub returns : goal.returns
returns g c = going-last c.loop-turn.invariant (omega arith) c.past-2.result c.past-2.ensures
