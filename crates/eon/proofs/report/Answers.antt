-- `eon::report` meets its contract.
use borrow.Author.Rules.{rules}
use mathlib.Core.Path.{sym}
use native.Mathlib.Omega.{arith}
use Prim.Native.Nat.{◌≤◌}
use lib.ListN.{length}
use lib.Seq.{length-take-le}
use Rattle.analyzer.specs.Analyzing.{Leaves}
use Rattle.grammar.specs.Texts.{outcome}
use Rattle.eon.proofs.Laws.{answered, text-ready, text-output, text-room}
use Rattle.eon.proofs.report.Goals as goal
use Rattle.eon.proofs.report.Goals.{After-analyze-analysis}

-- what the analysis leaves, with buffers that have their sizes
leaves : (c : After-analyze-analysis) → let a = c.args in Leaves (outcome a.text.now) a.work.now a.run.now c.analyze-analysis.result c.analyze-analysis.new.work c.analyze-analysis.new.run
leaves c = let a = c.args in answered a.text.now a.work.now a.run.now c.analyze-analysis.result c.analyze-analysis.new.work c.analyze-analysis.new.run c.requires.0 c.requires.1 c.analyze-analysis.ensures

pub list-requires : goal.list-requires
list-requires c =
    let a = c.args in
    let k = c.analyze-analysis in
    (text-ready a.text.now a.work.now a.run.now _ c.in-Ok.ensures k.result k.new.work k.new.run (search rules) (leaves (goal.at.list-requires c).After-analyze-analysis) (search rules), c.requires.2)

pub returns-in-Ok : goal.returns-in-Ok
returns-in-Ok c =
    let a = c.args in
    let k = c.analyze-analysis in
    let w = c.list in
    let l = leaves (goal.at.returns-in-Ok c).After-analyze-analysis in
    let said = text-output a.text.now a.work.now a.run.now _ c.in-Ok.ensures k.result k.new.work k.new.run (search rules) l a.out.now w.result w.new.out w.ensures in
    let fits = text-room a.text.now a.work.now a.run.now _ c.in-Ok.ensures k.result k.new.work k.new.run (search rules) l a.out.now w.result w.new.out w.ensures in
    let room : w.result ≤ length w.new.out = omega (arith, fits) in
    ((k.result, k.ensures, said), (room, sym (length-take-le w.result w.new.out room)))
