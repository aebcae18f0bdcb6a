-- `put_text` meets its contract.
use native.Mathlib.Omega.{arith}
use Rattle.listing_bytes.proofs.Writing.{after, kept}
use Rattle.asbestos.specs.Messages.{levels}
use Rattle.asbestos_writer.specs.Writing.{kinds_of}
use Rattle.asbestos_writer.proofs.Bytes.{table-short}
use Rattle.asbestos_writer.proofs.Checks.{kinds-room}
use Rattle.asbestos_writer.proofs.Texts.{text-parts}
use Rattle.asbestos_writer.proofs.put_text.Goals as goal

pub put_table-table-requires : goal.put_table-table-requires
put_table-table-requires c =
    let p = c.requires in
    let a = c.args in
    let s = c.put_bytes-states.ensures in
    let k = c.put_kinds-born.ensures in
    (p.2, omega (arith, p.0, p.4, s.next, kept s, k.next, kept k, kinds-room a.kinds.now a.count p.1 a.count (omega arith)))

pub put_question-requires : goal.put_question-requires
put_question-requires c =
    let p = c.requires in
    let a = c.args in
    let s = c.put_bytes-states.ensures in
    let k = c.put_kinds-born.ensures in
    let t = c.put_table-table.ensures in
    (p.3, omega (arith, p.0, p.4, s.next, kept s, k.next, kept k, t.next, kept t, kinds-room a.kinds.now a.count p.1 a.count (omega arith), table-short a.port p.2 levels (omega arith)))

pub returns : goal.returns
returns c =
    let a = c.args in
    let s = c.put_bytes-states.ensures in
    let k = c.put_kinds-born.ensures in
    let t = c.put_table-table.ensures in
    rw (text-parts (kinds_of a.kinds.now a.count) a.port a.level) (after (after (after s k) t) c.put_question.ensures)
