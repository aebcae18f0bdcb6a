-- `exports::eon_variable` meets its contract.
use native.Mathlib.Omega.{arith}
use Rattle.display.specs.Shown.{variable_at}
use Rattle.codes.proofs.Fitting.{part-fits}
use Rattle.exports.proofs.Parts.{long-line}
use Rattle.exports.proofs.eon_variable.Goals as goal

pub returns-then-line-gt-TEXT : goal.returns-then-line-gt-TEXT
returns-then-line-gt-TEXT c =
    let a = c.args in
    long-line a.line.now (variable_at a.line.now a.stage a.j) c.if-line-gt-TEXT.true

pub spanned-requires : goal.spanned-requires
spanned-requires c =
    let a = c.args in
    part-fits a.line.now (variable_at a.line.now a.stage a.j) c.variable.result (omega arith) c.variable.ensures
