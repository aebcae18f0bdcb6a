-- `listing::meet_line` meets its contract.
use mathlib.Core.List.{[], ◌∷◌}
use native.Mathlib.Omega.{arith}
use Rattle.listing_lines.specs.Lines.{place_line}
use Rattle.listing_bytes.proofs.Decimal.{word-short}
use Rattle.listing_lines.proofs.Items.{objects-short}
use Rattle.listing_bytes.proofs.Writing.{after, whole-line}
use Rattle.listing_lines.proofs.meet_line.Goals as goal

pub put_objects-named-requires : goal.put_objects-named-requires
put_objects-named-requires c =
    omega (arith, c.put_number-number.ensures.next, word-short c.args.stage c.ranges.stage)

pub put_end-requires : goal.put_end-requires
put_end-requires c =
    let short = objects-short (c.args.first ∷ c.args.second ∷ c.args.third ∷ []) (c.ranges.first, (c.ranges.second, (c.ranges.third, tt))) in
    omega (arith, c.put_objects-named.ensures.next, c.put_number-number.ensures.next, word-short c.args.stage c.ranges.stage, short)

pub returns : goal.returns
unfolding place_line
returns c =
    whole-line (after (after (after c.put_bytes-word.ensures c.put_number-number.ensures) c.put_objects-named.ensures) c.put_end.ensures)
