use Rattle.display_parts.proofs.Laws.{gives_none, next-nameless, next-listless, next-half, next-ended}
use Rattle.display_parts.proofs.next_part.Goals as goal

pub returns-in_err-x : goal.returns-in_err-x
returns-in_err-x c = let p = c.requires in rw c.from_residual.ensures (gives_none _ _ (next-nameless c.args.line.now p.0 p.1 c.in_err-x.ensures))

pub returns-in_err-p : goal.returns-in_err-p
returns-in_err-p c = let p = c.requires in rw c.from_residual-in_err-p.ensures (gives_none _ _ (next-listless c.args.line.now p.0 p.1 c.in_ok-x.ensures c.in_err-p.ensures))

pub returns-in_err-b : goal.returns-in_err-b
returns-in_err-b c = let p = c.requires in rw c.from_residual-in_err-b.ensures (gives_none _ _ (next-half c.args.line.now p.0 p.1 c.in_ok-x.ensures c.in_ok-p.ensures c.in_err-b.ensures))

pub returns : goal.returns
returns c = let p = c.requires in next-ended c.args.line.now p.0 p.1 c.in_ok-x.ensures c.in_ok-p.ensures c.in_ok-b.ensures c.clause.result c.clause.ensures
