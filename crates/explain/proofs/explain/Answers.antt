use mathlib.Core.Path.{refl, sym, ◌∙◌}
use lib.Dec.{ltb}
use lib.ListN.{length}
use borrow.Author.Tests.{ltb-false}
use Rattle.std.proofs.lemmas.Result.{err_from_is_err_and}
use Rattle.std.specs.Prelude.{Ok, Err}
use Rattle.limits.specs.Limits as limit
use Rattle.semantics.proofs.Tools.{or-false}
use Rattle.text.proofs.Laws.{not-short, not-long, called-well-formed}
use Rattle.explain.proofs.explain.Goals as goal

pub returns-in_err-m : goal.returns-in_err-m
returns-in_err-m c =
    let p = err_from_is_err_and c.from_residual.result c.from_residual.ensures.1 in
    rw (p.1, p.2, ← c.short-short.ensures, c.in_err-m.ensures) (record { answer = Err c.in_err-m.field-0.0; replayed = ((refl, refl), refl, refl); says = (refl, refl) })

pub explain_model-requires : goal.explain_model-requires
explain_model-requires c =
    let a = c.args in
    let r = c.in_ok-m.ensures in
    let l = or-false (ltb (length a.work.now) limit.work) (ltb (length a.stood.now) limit.run) (sym c.short-short.ensures ∙ not-short a.text.now _ _ _ r) in (
      called-well-formed a.text.now _ _ _ r,
      ltb-false limit.run (length a.run.now) (not-long a.text.now _ _ _ r),
      ltb-false (length a.work.now) limit.work l.0,
      ltb-false (length a.stood.now) limit.run l.1,
    )

pub returns : goal.returns
returns c =
    let e = c.explain_model.ensures in
    rw (← c.short-short.ensures, c.in_ok-m.ensures.says) (record { answer = Ok e.0.0; replayed = (e.0.1, e.1, e.2); says = e.0.2 })
