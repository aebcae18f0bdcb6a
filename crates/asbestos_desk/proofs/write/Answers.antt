-- `write` meets its contract.
use Rattle.asbestos_writer.specs.Writing.{kinds_of}
use Rattle.asbestos_desk.proofs.Verdict.{keeps}
use Rattle.asbestos_desk.proofs.write.Goals as goal

pub returns : goal.returns
returns c =
    let a = c.args in
    let w = c.write_text in
    (w.ensures, keeps (kinds_of a.kinds.now a.count) a.port a.level a.out.now w.result w.new.out w.ensures)
