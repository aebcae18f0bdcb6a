use borrow.Author.Tests.{not-true, not-false}
use mathlib.Core.Path.{refl}
use Rattle.from_here_verdict.proofs.Laws.{reached, unreached, shown}
use Rattle.from_here_verdict.proofs.conclude.Goals as goal

pub returns-then-not-found : goal.returns-then-not-found
returns-then-not-found c =
    let a = c.args in
    (unreached a.m a.s a.object c.requires.0 a.facts.now a.found c.requires.1 (not-true _ c.if-not-found.true), refl)

pub returns : goal.returns
returns c =
    let a = c.args in
    let w = c.show-places in (
      reached a.m a.s a.object c.requires.0 a.facts.now a.found c.requires.1 (not-false _ c.if-not-found.false),
      shown a.m c.requires.0.model _ a.object a.run.now _ w.result w.ensures _ c.place_of-last.ensures,
    )
