use mathlib.Core.Path.{◌≡◌, sym, ◌∙◌}
use native.Mathlib.Omega.{arith}
use lib.ListN.{length, take}
use lib.Seq.{length-take-le}
use Rattle.facts_holds.proofs.Laws.{own-part}
use Rattle.search_states.specs.States.{row}
use Rattle.search_states.proofs.Laws.{length-row}
use Rattle.witness_meetings.proofs.Laws.{codes-say, stage-evaluable}
use Rattle.witness_meetings.proofs.seek_stage.Goals as goal

pub seek-requires : goal.seek-requires
seek-requires c =
    let a = c.args in
    let p = c.requires in
    let few = c.requires.0.proper.count in
    (p.0.agree, own-part a.slots.now a.s.count p.1 (omega arith), rw c.body.ensures (stage-evaluable a.m p.0.model a.k p.2))

pub returns : goal.returns
returns c =
    let a = c.args in
    let p = c.requires in
    let long : length (take a.s.count a.slots.now) ≡ a.s.count = length-take-le a.s.count a.slots.now (let few = p.0.proper.count in let o = p.1.long in omega arith) in
    rw (c.body.ensures, codes-say a.m p.0.model a.k p.2) at (c.seek.ensures (row a.s) p.0.exact.states (length-row a.s p.0.proper ∙ sym long)).0
