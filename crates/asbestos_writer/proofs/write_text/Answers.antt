-- `write_text` meets its contract.
use mathlib.Core.Path.{sym, ◌∙◌}
use native.Mathlib.Omega.{arith}
use lib.ListN.{length}
use Rattle.asbestos_writer.specs.Writing.{kinds_of}
use Rattle.asbestos_writer.proofs.Checks.{fit, kinds-long}
use Rattle.asbestos_writer.proofs.write_text.Goals as goal

pub put_text-requires : goal.put_text-requires
put_text-requires c =
    let a = c.args in
    let f = fit (kinds_of a.kinds.now a.count) a.port a.level (length a.out.now) (sym c.refused.ensures ∙ c.if-refused.false) in
    (omega (arith, f.few, kinds-long a.kinds.now a.count), f.proper, f.low, f.asked, f.wide)
