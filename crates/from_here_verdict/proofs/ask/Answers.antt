use mathlib.Core.Logic.{inr}
use Rattle.analyzer_verdict.proofs.Laws.{listed}
use Rattle.from_here_verdict.proofs.ask.Goals as goal

pub returns : goal.returns
returns c =
    let a = c.args in
    let f = c.in-Some.ensures.0 in
    rw c.with_states.ensures (inr (f.explored.few, (c.conclude-answer.ensures, listed a.m _ _ f.explored)))
