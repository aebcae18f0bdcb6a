use Rattle.grammar.specs.Shapes.{bracket}
use Rattle.text_rows.proofs.Laws.{bracket-read}
use Rattle.text_rows.proofs.read_bracket.Goals as goal

pub returns-in_err-past : goal.returns-in_err-past
unfolding bracket
returns-in_err-past g c = rw c.from_residual.ensures (rw c.in_err-past.ensures)

pub returns-in_err-first : goal.returns-in_err-first
unfolding bracket
returns-in_err-first g c = let p = c.in_ok-past.ensures in rw c.from_residual-in_err-first.ensures (rw (p.read, c.in_err-first.ensures))

pub returns : goal.returns
returns g c = bracket-read c.in_ok-past.ensures c.in_ok-first.ensures c.args.n c.read_row.result c.read_row.ensures
