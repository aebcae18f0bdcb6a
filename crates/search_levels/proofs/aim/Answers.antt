use native.Mathlib.Omega.{arith}
use Rattle.semantics.proofs.Tools.{seat-ok}
use Rattle.search_states.specs.States.{row}
use Rattle.search_states.proofs.Laws.{length-row}
use Rattle.search_states.proofs.Seats.{seat-absent}
use Rattle.search_levels.proofs.Targets.{aims-row, aims-none}
use Rattle.search_levels.proofs.aim.Goals as goal

pub row-requires-in-Some : goal.row-requires-in-Some
row-requires-in-Some c =
    let a = c.args in
    let q = rw c.row.ensures at c.in-Some.ensures in
    omega (arith, q.1, (seat-ok a.state (row a.s) q.0).0, length-row a.s c.requires, c.requires.count)

pub returns-in-Some : goal.returns-in-Some
returns-in-Some c =
    let a = c.args in
    let q = rw c.row.ensures at c.in-Some.ensures in
    aims-row a.s a.ways.now a.state c.row-in-Some.result (omega (arith, (seat-ok a.state (row a.s) q.0).0, length-row a.s c.requires)) (rw q.1 at c.row-in-Some.ensures)

pub returns-in-None : goal.returns-in-None
returns-in-None c =
    let a = c.args in
    aims-none a.s a.ways.now a.state (omega (arith, seat-absent a.state (row a.s) (rw c.row.ensures at c.in-None.ensures), length-row a.s c.requires))
