-- `exports::eon_mark` meets its contract.
use mathlib.Core.Bool.{false}
use lib.ListN.{length}
use Rattle.calls.specs.Calls.{called}
use Rattle.marker.specs.Marking.{narrow}
use Rattle.codes.proofs.Fitting.{mark-fits}
use Rattle.exports.proofs.eon_mark.Goals as goal

pub marked-requires : goal.marked-requires
marked-requires c =
    let a = c.args in
    let r = c.mark in
    rw c.by_number.ensures (mark-fits (called a.text.now (narrow (length a.work.now) (length a.run.now) (length a.stood.now)) false) a.handin.now a.work.now a.run.now a.stood.now r.result r.new.work r.new.run r.new.stood r.ensures)
