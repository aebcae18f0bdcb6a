-- `writing::put_pair` meets its contract.
use mathlib.Core.List.{[], ◌∷◌}
use native.Mathlib.Omega.{arith}
use Rattle.listing_bytes.specs.Numerals.{decimal}
use Rattle.listing_bytes.proofs.Decimal.{word-short}
use Rattle.listing_bytes.proofs.Writing.{writes-none, after, item}
use Rattle.listing_bytes.proofs.put_pair.Goals as goal

pub put_number-second-requires : goal.put_number-second-requires
put_number-second-requires c =
    omega (arith, c.put_number-first.ensures.next, word-short c.args.a c.ranges.a)

pub put_end-requires : goal.put_end-requires
put_end-requires c =
    omega (arith, c.put_number-second.ensures.next, c.put_number-first.ensures.next, word-short c.args.a c.ranges.a, word-short c.args.b c.ranges.b)

pub returns : goal.returns
returns c =
    after (item [] (decimal c.args.a ∷ []) (item [] [] (writes-none c.args.out.now c.args.at (omega arith)) c.put_number-first.ensures) c.put_number-second.ensures) c.put_end.ensures
