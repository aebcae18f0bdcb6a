-- The numeral's last digit follows the numeral of the number without it.
use mathlib.Core.Path.{ap}
use native.Mathlib.Omega.{arith}
use lib.ListN.{length}
use Rattle.listing_bytes.proofs.Decimal.{decimal-small, decimal-large, decimal-longer}
use Rattle.listing_bytes.proofs.Writing.{after, kept}
use Rattle.listing_bytes.proofs.+put_numeral.Goals as goal

pub put_byte-requires : goal.put_byte-requires
put_byte-requires t c = omega (arith, ap length (decimal-small c.args.n c.if-n-lt10.true))

pub returns-then-n-lt10 : goal.returns-then-n-lt10
returns-then-n-lt10 t c = rw (decimal-small c.args.n c.if-n-lt10.true) c.put_byte.ensures

pub put_numeral-last-requires : goal.put_numeral-last-requires
put_numeral-last-requires t c = (omega arith, omega (arith, decimal-longer c.args.n c.if-n-lt10.false))

pub put_byte-requires-2 : goal.put_byte-requires-2
put_byte-requires-2 t c =
    omega (arith, c.put_numeral-last.ensures.next, kept c.put_numeral-last.ensures, c.requires, decimal-longer c.args.n c.if-n-lt10.false)

pub returns : goal.returns
returns t c =
    rw (decimal-large c.args.n c.if-n-lt10.false) (after c.put_numeral-last.ensures c.put_byte-2.ensures)
