-- `writing::put_number` meets its contract.
use native.Mathlib.Omega.{arith}
use Rattle.listing_bytes.proofs.Decimal.{word-short}
use Rattle.listing_bytes.proofs.Writing.{after}
use Rattle.listing_bytes.proofs.put_number.Goals as goal

pub put_numeral-requires : goal.put_numeral-requires
put_numeral-requires c =
    omega (arith, word-short c.args.n c.ranges.n)

pub returns : goal.returns
returns c =
    after c.put_byte-next.ensures c.put_numeral.ensures
