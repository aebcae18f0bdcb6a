use native.Mathlib.Omega.{arith}
use Rattle.std.proofs.lemmas.Result.{err_from_is_err_and}
use Rattle.text.proofs.Lines.{line-failed, line-passed}
use Rattle.text.proofs.Asking.{ask-refused, ask-followed, ask-last}
use Rattle.text.proofs.read_question.Goals as goal

pub returns-in_err-on_line : goal.returns-in_err-on_line
returns-in_err-on_line c = λ at so k.
    let p = err_from_is_err_and c.from_residual.result c.from_residual.ensures.1 in
    let f = line-failed _ _ c.on_line.ensures c.in_err-on_line.was in
    rw (p.1, p.2, f.2) (ask-refused so k f.0 (rw f.1 at c.read_ask.ensures.0))

pub returns-then-e-text : goal.returns-then-e-text
returns-then-e-text c = λ at so k. ask-followed so k (rw (line-passed _ _ c.on_line.ensures c.in_ok-on_line.was) at c.read_ask.ensures.0) c.if-e-text.true

pub returns : goal.returns
returns c = λ at so k. ask-last so k (rw (line-passed _ _ c.on_line.ensures c.in_ok-on_line.was) at c.read_ask.ensures.0) (omega (arith, c.if-e-text.false)) c.fit.ensures
