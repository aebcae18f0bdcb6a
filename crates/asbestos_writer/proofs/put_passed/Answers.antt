-- `put_passed` meets its contract.
use Rattle.listing_bytes.proofs.Writing.{after}
use Rattle.asbestos_writer.proofs.put_passed.Goals as goal

pub returns : goal.returns
returns c = after (after c.put_level-receiver.ensures c.put_level-may.ensures) c.put_level.ensures
