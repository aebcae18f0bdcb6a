-- `exports::eon_replay` meets its contract.
use mathlib.Core.Path.{refl}
use lib.ListN.{length}
use Rattle.calls.specs.Calls.{short}
use Rattle.replay.specs.Replies.{run_outcome}
use Rattle.exports.proofs.Fitting.{replay-fits}
use Rattle.exports.proofs.eon_replay.Goals as goal

pub replied-requires : goal.replied-requires
replied-requires c =
    let a = c.replay in
    let text = c.args.text.now in
    let run = c.args.run.now in
    let work = c.args.work.now in
    let table = c.args.table.now in
    replay-fits text run work table (short (length work) (length table)) a.result a.new.work a.new.table (run_outcome text run work table) refl a.ensures
