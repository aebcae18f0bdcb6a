use mathlib.Core.Path.{refl}
use native.Mathlib.Omega.{arith}
use native.Mathlib.Numerals.{add-one}
use Rattle.model.specs.Records.{program_of}
use Rattle.search_states.specs.States.{row}
use Rattle.search_states.proofs.Laws.{length-row}
use Rattle.search_ways.proofs.Laws.{slot-live}
use Rattle.shortest_empty.proofs.Laws.{no_way, one_more}
use Rattle.shortest_empty.proofs.way.Goals as goal

pub returns-in_err-u : goal.returns-in_err-u
returns-in_err-u c =
    let a = c.args in
    let m = c.requires.0 in
    let k = length-row a.s m.proper in
    rw c.from_residual.ensures (no_way (program_of a.m) m.model.safe (row a.s) m.whole a.from (omega (arith, c.requires.1, k)) (slot-live a.m m.model a.s m.proper a.moves.now.steps m.single a.from c.requires.1) c.in_err-u.ensures, refl)

pub returns : goal.returns
returns c =
    let a = c.args in
    let m = c.requires.0 in
    let k = length-row a.s m.proper in
    let w = c.way-k in
    rw add-one
    (one_more (program_of a.m) m.model.safe (row a.s) m.whole a.from c.in_ok-u.u (omega (arith, c.requires.1, k)) (slot-live a.m m.model a.s m.proper a.moves.now.steps m.single a.from c.requires.1) c.in_ok-u.ensures a.out.now w.new.out w.result
    c.unwrap.result (omega (arith, w.ensures.few, k, c.requires.2, w.auto.out)) w.ensures (rw c.unwrap.ensures at c.emptier.ensures))
