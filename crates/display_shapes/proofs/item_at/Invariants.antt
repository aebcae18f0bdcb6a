-- After some turns as many items are passed.
use Prim.Native.Nat.{◌-◌}
use Rattle.display_shapes.proofs.Rows.{Walking}
use Rattle.display_shapes.proofs.item_at.Given as goal

abbrev pub invariant-loop-turn : goal.invariant-loop-turn
invariant-loop-turn g l = Walking g.T.Item.read l.text l.at l.k l.i (l.k - l._turn)
