use Rattle.display_variables.proofs.Laws.{behind_none, behind-found, stale-none, stale-known, fresh-found}
use Rattle.display_variables.proofs.fresh_end.Goals as goal

pub returns-in_err-end : goal.returns-in_err-end
returns-in_err-end c = let a = c.args in rw c.from_residual.ensures (stale-none a.line.now a.p a.i (behind_none a.line.now a.i c.requires.2 c.in_err-end.ensures))

pub returns-then-is_known : goal.returns-then-is_known
returns-then-is_known c = let a = c.args in stale-known a.line.now a.p a.i (behind-found a.line.now a.i c.requires.2 c.in_ok-end.ensures) c.if-is_known.ensures

pub returns : goal.returns
returns c = let a = c.args in fresh-found a.line.now a.p a.i (behind-found a.line.now a.i c.requires.2 c.in_ok-end.ensures) c.if-is_known.ensures
