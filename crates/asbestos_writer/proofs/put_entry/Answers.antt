-- `put_entry` meets its contract.
use native.Mathlib.Omega.{arith}
use Rattle.listing_bytes.proofs.Writing.{kept}
use Rattle.grammar.specs.Bytes.{bytes}
use Rattle.asbestos.proofs.Codes.{resulting_level-right}
use Rattle.asbestos_writer.proofs.Bytes.{entry-stays, entry-raised, changed-short}
use Rattle.asbestos_writer.proofs.put_entry.Goals as goal

pub put_next-marking-requires : goal.put_next-marking-requires
put_next-marking-requires c =
    let r = c.resulting-c.ensures in
    (c.requires.0, c.requires.1, omega (arith, r, resulting_level-right c.args.a c.args.b c.requires.0 c.requires.1), omega (arith, c.requires))

pub returns-then-c-a : goal.returns-then-c-a
returns-then-c-a c =
    entry-stays c.args.a c.args.b c.resulting-c.result c.requires.0 c.requires.1 c.resulting-c.ensures c.put_next-marking.ensures c.if-c-a.true

pub put_next-requires : goal.put_next-requires
put_next-requires c =
    let w = c.put_next-marking.ensures in
    let r = c.resulting-c.ensures in
    (c.requires.0, c.requires.1, omega (arith, r, resulting_level-right c.args.a c.args.b c.requires.0 c.requires.1), omega (arith, c.requires, w.next, kept w, changed-short (bytes "(next x (M S") c.args.a c.args.b c.resulting-c.result (bytes " y) (M y))\n")))

pub returns : goal.returns
returns c =
    entry-raised c.args.a c.args.b c.resulting-c.result c.requires.0 c.requires.1 c.resulting-c.ensures c.put_next-marking.ensures c.if-c-a.false c.put_next.ensures
