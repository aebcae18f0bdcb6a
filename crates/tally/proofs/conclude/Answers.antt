use mathlib.Core.Path.{◌≡◌}
use Prim.Native.Nat.{◌≤◌}
use lib.ListN.{length}
use borrow.Author.Rules.{rules}
use native.Mathlib.Omega.{arith}
use Rattle.tally.proofs.Laws.{tallied}
use Rattle.tally.proofs.conclude.Goals as goal

pub returns : goal.returns
returns c = λ P Q L d.
    let r = c.reached-reached in
    let long : c.args.c.table.total ≤ length c.args.c.table.said = (let e : length c.args.c.table.said ≡ 1024 = search rules in omega (arith, c.requires.0)) in
    rw (c.hundredths.ensures, c.rest.ensures) (tallied P Q L c.args.c.table long d.once d.filled r.result r.ensures)
