use mathlib.Core.Path.{refl, ◌∙◌}
use Rattle.std.proofs.lemmas.Result.{err_from_is_err_and}
use Rattle.rows.proofs.Laws.{some-number}
use Rattle.calls.proofs.Laws.{called-early}
use Rattle.text.proofs.Lines.{called-small, called-read}
use Rattle.text.proofs.accept.Goals as goal

pub returns-in_err-early : goal.returns-in_err-early
returns-in_err-early c =
    let a = c.args in
    let p = err_from_is_err_and c.from_residual.result c.from_residual.ensures.1 in
    let x = c.in_err-early.field-0.0 in
    let h = c.in_err-early.ensures in
    rw (p.1, p.2) (called-early a.text.now a.short a.long (λ z. some-number x.row (h.0 ∙ z)) ∙ rw (h.0, h.1) refl)

pub read_lines-requires : goal.read_lines-requires
read_lines-requires c = (called-small c.args.text.now c.args.short c.args.long c.in_ok-early.ensures, c.blank-m.ensures)

pub returns-in_err-read_lines : goal.returns-in_err-read_lines
returns-in_err-read_lines c =
    let a = c.args in
    let p = err_from_is_err_and c.from_residual-in_err-read_lines.result c.from_residual-in_err-read_lines.ensures.1 in
    rw (p.1, p.2) (called-read a.text.now a.short a.long c.in_ok-early.ensures ∙ c.in_err-read_lines.ensures)

pub returns : goal.returns
returns c = let a = c.args in rw (called-read a.text.now a.short a.long c.in_ok-early.ensures) c.in_ok-read_lines.ensures
