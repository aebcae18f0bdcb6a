-- `exports::eon_asbestos` meets its contract.
use Rattle.asbestos_writer.specs.Writing.{kinds_of}
use Rattle.asbestos_desk.proofs.Verdict.{short-text}
use Rattle.exports.proofs.eon_asbestos.Goals as goal

pub coded-requires : goal.coded-requires
coded-requires c =
    let a = c.args in
    let w = c.write in
    rw c.by_number.ensures (short-text (kinds_of a.kinds.now a.count) a.port a.level a.out.now w.result w.new.out w.ensures.0)
