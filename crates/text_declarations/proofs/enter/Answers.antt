use native.Mathlib.Omega.{arith}
use Rattle.text_declarations.proofs.Laws.{tally-le}
use Rattle.text_declarations.proofs.enter.Goals as goal

pub overflow_cast-name : goal.overflow_cast-name
overflow_cast-name c = let d = c.args.d in omega (arith, c.requires, c.tally_of-index.ensures, tally-le c.args.class d.names d.count)

pub overflow_add-name : goal.overflow_add-name
overflow_add-name c = let d = c.args.d in omega (arith, c.requires, c.tally_of-index.ensures, tally-le c.args.class d.names d.count)
