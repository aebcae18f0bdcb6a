use Rattle.display_variables.proofs.Laws.{counted_start, counted-end, counted-old, counted-new, counted-found}
use Rattle.display_variables.proofs.later.Goals as goal
use Rattle.display_variables.proofs.later.Goals.{in-Some+else-count-j, in_default}

pub loop-i-init : goal.loop-i-init
loop-i-init c = let p = c.requires in counted_start p.0 p.1 p.2

pub returns-then-count-j : goal.returns-then-count-j
returns-then-count-j c = counted-found c.loop-i.invariant c.requires.0 c.loop-i-test.true c.in-Some.ensures c.if-count-j.true

pub loop-i-preserved : goal.loop-i-preserved
loop-i-preserved c =
    let v = c.loop-i.invariant in
    let p = c.requires.0 in
    let l = c.loop-i-test.true in
    elim c.match-fresh_end.branch [
      | in-Some+else-count-j w ↦ rw w.count-is (counted-new v p l w.in-Some.ensures w.if-count-j.false)
      | in_default w ↦ rw w.count-is (counted-old v p l w.in_default.ensures)
    ]

pub returns : goal.returns
returns c = counted-end c.loop-i.invariant c.requires.0 c.loop-i-test.false
