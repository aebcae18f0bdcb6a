-- `exports::eon_handin` meets its contract.
use mathlib.Core.Path.{refl}
use Rattle.handin.specs.Handins.{reading}
use Rattle.codes.proofs.Fitting.{said_fits}
use Rattle.exports.proofs.eon_handin.Goals as goal

pub handed-requires : goal.handed-requires
handed-requires c =
    let a = c.args in
    let r = c.read-said.ensures in
    rw r (said_fits a.handin.now (reading a.handin.now) refl)
