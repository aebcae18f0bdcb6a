-- `listing::states_line` meets its contract.
use mathlib.Core.List.{[]}
use native.Mathlib.Omega.{arith}
use Rattle.listing_bytes.proofs.Decimal.{word-short}
use Rattle.listing_bytes.proofs.Writing.{after, item, whole-line}
use Rattle.listing_bytes.specs.Forms.{bytes}
use Rattle.listing_lines.specs.Lines.{states_line}
use Rattle.listing_lines.proofs.states_line.Goals as goal

pub put_end-requires : goal.put_end-requires
put_end-requires c =
    omega (arith, c.put_number-number.ensures.next, word-short c.args.n c.ranges.n)

pub returns : goal.returns
unfolding states_line
returns c =
    whole-line (after (item (bytes "(states") [] c.put_bytes-word.ensures c.put_number-number.ensures) c.put_end.ensures)
