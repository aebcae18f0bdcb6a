-- After some turns as many items are read.
use Prim.Native.Nat.{◌-◌}
use Rattle.display_shapes.proofs.Laws.{Going}
use Rattle.display_shapes.proofs.items_end.Given as goal

abbrev pub invariant-loop-turn : goal.invariant-loop-turn
invariant-loop-turn g l = Going g.T.Item.read l.text l.at l.n l.i (l.n - l._turn)
