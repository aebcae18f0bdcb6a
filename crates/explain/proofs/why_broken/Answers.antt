use mathlib.Core.Path.{sym, ◌∙◌}
use lib.ListN.{length}
use borrow.Author.Tests.{ltb-true}
use Rattle.std.proofs.lemmas.Grind.{get_or_default_zero}
use Rattle.explain.proofs.Laws.{reason-place}
use Rattle.explain.proofs.why_broken.Goals as goal

pub returns : goal.returns
returns c =
    let a = c.args in let w = c.why in let s = c.in-Some in
    let inside = ltb-true a.place (length a.run.now) (sym s.ensures.lookup.0) in
    let read = s.ensures.lookup.1 ∙ get_or_default_zero a.run.now a.place s.field-0.now inside in
    (reason-place a.m a.run.now a.place a.s c.requires.3 c.requires.4 inside w.result (λ p e. w.ensures.0 p (rw read e)), w.ensures.1)
