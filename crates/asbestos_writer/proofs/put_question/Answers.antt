-- `put_question` meets its contract.
use Rattle.asbestos_writer.proofs.Bytes.{asked-printed}
use Rattle.listing_bytes.proofs.Writing.{after}
use Rattle.asbestos_writer.proofs.put_question.Goals as goal

pub returns : goal.returns
returns c =
    rw (asked-printed c.args.level c.requires.0) (after c.put_level-least.ensures c.put_exactly.ensures)
