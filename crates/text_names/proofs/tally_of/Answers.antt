use native.Mathlib.Omega.{arith}
use Rattle.std.proofs.Common.{rules}
use Rattle.text_names.proofs.Laws.{tally-by}
use Rattle.text_names.proofs.tally_of.Goals as goal

pub returns : goal.returns
returns c = let d = c.args.d.now in rw (tally-by c.args.k d.names d.count (omega (arith, c.requires))) (search rules)
