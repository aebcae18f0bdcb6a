use Rattle.std.specs.Prelude.{Some}
use Rattle.rows.proofs.Options.{some_of}
use Rattle.search_states.specs.States.{Known}
use Rattle.search.specs.Search.{Surveyed}
use Rattle.shortest_answer.proofs.Laws.{staying, answered}
use Rattle.shortest_answer.proofs.find.Goals as goal
use Rattle.shortest_answer.proofs.find.Goals.{In_ok-found, Else-not-known, Else-not-known-2}

-- the states are explored
surveyed : (c : In_ok-found) → Surveyed c.args.m c.requires.1.0 c.in_ok-found.found
surveyed c = rw (some_of _ c.ok_or.ensures.value c.in_ok-found.was) at c.requires.1.1

first : (c : Else-not-known) → Known c.in_ok-found.found.states c.args.from
first c = let k = c.known in k.ensures.0 (c.if-not-known.false)

second : (c : Else-not-known-2) → Known c.in_ok-found.found.states c.args.to
second c = let k = c.known-else-not-known in k.ensures.0 (c.if-not-known-2.false)

pub returns-then-from-to : goal.returns-then-from-to
returns-then-from-to c =
    let a = c.args in
    answered a.m c.requires.0 c.requires.1.0 c.in_ok-found.found (surveyed (goal.at.returns-then-from-to c).In_ok-found) a.from a.to (first (goal.at.returns-then-from-to c).Else-not-known) (second (goal.at.returns-then-from-to c).Else-not-known-2) a.run.now a.run.now (Some 0)
    (staying a.m c.in_ok-found.found.states a.from a.to a.run.now c.if-from-to.true)

pub returns : goal.returns
returns c =
    let a = c.args in
    let r = c.onward in
    answered a.m c.requires.0 c.requires.1.0 c.in_ok-found.found (surveyed (goal.at.returns c).In_ok-found) a.from a.to (first (goal.at.returns c).Else-not-known) (second (goal.at.returns c).Else-not-known-2) a.run.now _ r.result r.ensures
