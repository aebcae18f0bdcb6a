use Rattle.display_parts.proofs.Laws.{gives_none, ask-stageless, ask-unended, ask-few, ask-found}
use Rattle.display_parts.proofs.stage_part.Goals as goal

pub returns-in_err-q : goal.returns-in_err-q
returns-in_err-q c = let p = c.requires in rw c.from_residual.ensures (gives_none _ _ (ask-stageless c.args.line.now p.0 p.1 p.2 c.in_err-q.ensures))

pub returns-then-not-closes : goal.returns-then-not-closes
returns-then-not-closes c = let p = c.requires in gives_none _ _ (ask-unended c.args.line.now p.0 p.1 p.2 c.in_ok-q.ensures c.if-not-closes.ensures)

pub returns-in_err-s : goal.returns-in_err-s
returns-in_err-s c = let p = c.requires in rw c.from_residual-in_err-s.ensures (gives_none _ _ (ask-few c.args.line.now p.0 p.1 p.2 c.in_ok-q.ensures c.if-not-closes.ensures c.in_err-s.ensures))

pub returns : goal.returns
returns c = let p = c.requires in ask-found c.args.line.now p.0 p.1 p.2 c.in_ok-q.ensures c.if-not-closes.ensures c.in_ok-s.ensures
