use mathlib.Core.Path.{◌∙◌}
use native.Mathlib.Omega.{arith}
use Rattle.std.proofs.lemmas.Result.{err_from_is_err_and}
use Rattle.rows.proofs.Options.{none_of, some_of, passed}
use Rattle.model.specs.Records.{program_of}
use Rattle.text.proofs.Lines.{reached-start, onwards-start, onwards-bad, line-failed, line-passed, line_refused, onwards-on, reached-on, onwards-end}
use borrow.Author.Rules.{rules}
use Rattle.text.proofs.read_lines.Goals as goal

pub loop-at-init : goal.loop-at-init
loop-at-init c =
    let z = c.none-d.ensures in
    let d = c.none-d.result in
    (c.requires.0, reached-start d z c.requires.1 (search rules), onwards-start d z c.requires.1 c.args.text.now)

pub returns-in_err-e : goal.returns-in_err-e
returns-in_err-e c =
    let p = passed c.in_err-e.was c.from_residual.ensures.1 in
    let n = none_of _ c.ok_or.ensures.value p.2 in
    rw (p.1, ← n.1, c.loop-at.invariant.2) (onwards-bad c.loop-at.invariant.1 (rw n.0 at c.line_end.ensures))

pub returns-in_err-on_line : goal.returns-in_err-on_line
returns-in_err-on_line c =
    let i = c.loop-at.invariant in
    let a = c.in_default.ensures in
    let p = err_from_is_err_and c.from_residual-in_err-on_line.result c.from_residual-in_err-on_line.ensures.1 in
    let f = line-failed _ _ c.on_line.ensures c.in_err-on_line.was in
    let r = rw f.1 at c.read_line.ensures in
    rw (p.1, p.2, f.2, i.2) (line_refused i.1 (rw (some_of _ c.ok_or.ensures.value c.in_ok-e.was) at c.line_end.ensures) f.0 (r.steps (λ _. a) (program_of c.loop-at.m) i.1.holds))

pub loop-at-preserved : goal.loop-at-preserved
loop-at-preserved c =
    let i = c.loop-at.invariant in
    let l = rw (some_of _ c.ok_or.ensures.value c.in_ok-e.was) at c.line_end.ensures in
    let a = c.in_default.ensures in
    let r = rw (line-passed _ _ c.on_line.ensures c.in_ok-on_line.was) at c.read_line.ensures in
    let s = r.steps (λ _. a) (program_of c.loop-at.m) i.1.holds in
    (i.0, reached-on i.1 l s r.aside, i.2 ∙ onwards-on i.1 l s a)

pub returns : goal.returns
returns c = let k = c.loop-at in rw k.invariant.2 (onwards-end c.args.text.now k.at k.line k.d k.m (omega (arith, c.loop-at-test.false)))
