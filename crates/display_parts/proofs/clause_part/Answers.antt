use Rattle.display_parts.proofs.Laws.{gives_none, no-clause}
use Rattle.display_parts.proofs.clause_part.Goals as goal

pub returns : goal.returns
returns c = gives_none _ _ (no-clause c.args.line.now (c.at_bytes.ensures.missing c.if-at_bytes.false) (c.at_bytes-2.ensures.missing c.if-at_bytes-2.false) (c.at_bytes-3.ensures.missing c.if-at_bytes-3.false))
