use native.Mathlib.Omega.{arith}
use Rattle.display_shapes.proofs.Rows.{none-out, none-closed, none-fails}
use Rattle.display_shapes.proofs.item_behind.Goals as goal
use Rattle.display_shapes.proofs.item_behind.Goals.{then-i-text-via-then-i-text, then-i-text-via-else-i-text+then-at_byte}

pub returns-then-i-text : goal.returns-then-i-text
returns-then-i-text g c = elim c.then-i-text.branch [
  | then-i-text-via-then-i-text w ↦ none-out g.T.Item.read c.args.text.now c.args.i (omega (arith, w.if-i-text.true))
  | then-i-text-via-else-i-text+then-at_byte w ↦ none-closed g.T.Item.read c.args.text.now c.args.i (w.at_byte.ensures.found w.if-at_byte.true).1
]

pub returns-in_err-to : goal.returns-in_err-to
returns-in_err-to g c = rw c.from_residual.ensures (none-fails g.T.Item.read c.args.text.now c.args.i (omega arith) (c.at_byte.ensures.missing c.if-at_byte.false) c.in_err-to.ensures)
