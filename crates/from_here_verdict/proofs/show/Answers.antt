use Rattle.search_states.specs.States.{row}
use Rattle.search_states.proofs.Laws.{length-row}
use Rattle.search_states.proofs.Seats.{seat-in, sought-known}
use Rattle.replay_session.specs.Sessions.{state_in}
use Rattle.from_here_verdict.specs.Standing.{there}
use Rattle.from_here_verdict.proofs.Laws.{there-long, recorded, points, sits, slot-there, slot-state}
use Rattle.from_here_verdict.proofs.show.Goals as goal

pub unwrap-slot-requires : goal.unwrap-slot-requires
unwrap-slot-requires c =
    let a = c.args in
    let p = c.requires in
    let s = a.found.explored.states in
    sought-known (state_in a.s a.object) (row s) c.seek.result (rw c.row.ensures at c.seek.ensures)
    (seat-in (state_in a.s a.object) (row s) s.count (length-row s p.1.explored.proper) (slot-there a.m a.s a.object p.0 a.facts.now a.found p.1 p.2))

pub witness_from-requires : goal.witness_from-requires
witness_from-requires c =
    let a = c.args in
    let p = c.requires in
    let w = c.args.facts.now in
    let e = (rw (c.row.ensures, c.unwrap-slot.ensures) at c.seek.ensures).1 in (
      recorded a.m a.s a.object p.0 w a.found p.1,
      sits a.m a.s a.object p.0 w a.found p.1 p.2,
      rw e (points a.m a.s a.object p.0 w a.found p.1),
      p.0.variable,
      p.0.few,
      p.0.created,
      rw e (slot-there a.m a.s a.object p.0 w a.found p.1 p.2),
      p.3,
    )

pub returns : goal.returns
returns c =
    let a = c.args in
    let p = c.requires in
    c.witness_from.ensures (there a.m a.s) (there-long a.m p.0.places a.s p.0.stopped)
    (rw (rw (c.row.ensures, c.unwrap-slot.ensures) at c.seek.ensures).1 (slot-state a.m a.s a.object p.0 a.facts.now a.found p.1 p.2))
