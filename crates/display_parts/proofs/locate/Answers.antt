use Rattle.display_parts.proofs.Laws.{gives_none, no-stage}
use Rattle.display_parts.proofs.locate.Goals as goal

pub returns : goal.returns
returns c = gives_none _ _ (no-stage c.args.n c.if-n-eq0.false c.args.line.now (c.at_bytes.ensures.missing c.if-at_bytes.false))
