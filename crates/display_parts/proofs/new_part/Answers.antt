use Rattle.display_parts.proofs.Laws.{gives_none, new-listless, new-ended}
use Rattle.display_parts.proofs.new_part.Goals as goal

pub returns-in_err-l : goal.returns-in_err-l
returns-in_err-l c = let p = c.requires in rw c.from_residual.ensures (gives_none _ _ (new-listless c.args.line.now p.0 p.1 c.in_err-l.ensures))

pub returns : goal.returns
returns c = let p = c.requires in new-ended c.args.line.now p.0 p.1 c.in_ok-l.ensures c.clause.result c.clause.ensures
