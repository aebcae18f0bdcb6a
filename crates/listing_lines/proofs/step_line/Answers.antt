-- `listing::step_line` meets its contract.
use Rattle.listing_lines.specs.Lines.{place_line}
use Rattle.listing_bytes.proofs.Writing.{after, whole-line}
use Rattle.listing_lines.proofs.step_line.Goals as goal

pub returns : goal.returns
unfolding place_line
returns c =
    whole-line (after c.put_bytes-word.ensures c.put_pair.ensures)
