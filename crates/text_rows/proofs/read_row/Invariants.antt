use Prim.Native.Nat.{◌-◌}
use Rattle.text_rows.specs.Rows.{Room}
use Rattle.text_rows.proofs.Laws.{RowSo}
use Rattle.text_rows.proofs.read_row.Given as goal

abbrev pub invariant-loop : goal.invariant-loop
invariant-loop g l = let T = g.T.Item in RowSo T.read (T.Held l.text l.d) l.text l.at l.n l.initial.so_far l.so_far l.i (l.n - l.counter) × Room (T.Held l.text l.d) T.most l.n l.initial.so_far
