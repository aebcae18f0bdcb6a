use Rattle.display_parts.proofs.Laws.{gives_none, rule-headless, rule-ended}
use Rattle.display_parts.proofs.rule_part.Goals as goal

pub returns-in_err-h : goal.returns-in_err-h
returns-in_err-h c = let p = c.requires in rw c.from_residual.ensures (gives_none _ _ (rule-headless c.args.line.now p.0 p.1 c.in_err-h.ensures))

pub returns : goal.returns
returns c = let p = c.requires in rule-ended c.args.line.now p.0 p.1 c.in_ok-h.ensures c.clause.result c.clause.ensures
