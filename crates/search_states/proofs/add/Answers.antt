use mathlib.Core.Path.{◌≡◌, sym, ◌∙◌}
use native.Mathlib.Omega.{arith}
use Rattle.semantics.specs.Models.{elem}
use Rattle.search_states.specs.States.{row}
use Rattle.search_states.proofs.Laws.{added-empty, added-same, added-fresh, added-over}
use Rattle.search_states.proofs.Seats.{list_any-elem}
use Rattle.search_states.proofs.add.Goals as goal
use Rattle.search_states.proofs.add.Goals.{After-contains}

-- the test of the row
among : (c : After-contains) → elem c.args.state (row c.args.s) ≡ c.contains.result
among c = sym ((rw c.row.ensures at c.contains.ensures.value) ∙ list_any-elem c.args.state (row c.args.s))

pub returns-then-state-eq0 : goal.returns-then-state-eq0
returns-then-state-eq0 c = let a = c.args in added-empty a.s a.state a.arrival.line a.arrival.origin c.if-state-eq0.true

pub returns-then-contains : goal.returns-then-contains
returns-then-contains c =
    let a = c.args in
    added-same a.s a.state a.arrival.line a.arrival.origin c.if-state-eq0.false (among (goal.at.returns-then-contains c).After-contains ∙ c.if-contains.true)

pub returns-then-n-eq-ATOMIC : goal.returns-then-n-eq-ATOMIC
returns-then-n-eq-ATOMIC c =
    let a = c.args in
    added-over a.s a.state a.arrival.line a.arrival.origin c.if-state-eq0.false (among (goal.at.returns-then-n-eq-ATOMIC c).After-contains ∙ c.if-contains.false) (omega (arith, c.if-n-eq-ATOMIC.true))

pub returns : goal.returns
returns c =
    let a = c.args in
    added-fresh a.s a.state a.arrival.line a.arrival.origin c.if-state-eq0.false (among (goal.at.returns c).After-contains ∙ c.if-contains.false) (omega (arith, c.if-n-eq-ATOMIC.false, c.requires.0.count))
