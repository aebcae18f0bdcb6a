-- `exports::eon_relation` meets its contract.
use mathlib.Core.Path.{refl}
use Rattle.grammar.specs.Texts.{outcome}
use Rattle.codes.proofs.Fitting.{relation-fits}
use Rattle.exports.proofs.eon_relation.Goals as goal

pub declared-requires : goal.declared-requires
declared-requires c =
    let a = c.args in
    relation-fits a.text.now (outcome a.text.now) a.i c.relation.result refl c.relation.ensures
