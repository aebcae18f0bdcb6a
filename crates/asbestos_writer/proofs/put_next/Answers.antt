-- `put_next` meets its contract.
use Rattle.listing_bytes.proofs.Writing.{after}
use Rattle.asbestos_writer.proofs.put_next.Goals as goal

pub returns : goal.returns
returns c = after (after (after c.put_level-added.ensures c.put_taken-gone.ensures) c.put_passed-passes.ensures) c.put_bytes.ensures
