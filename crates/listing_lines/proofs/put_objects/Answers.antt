-- `listing::put_objects` meets its contract.
use mathlib.Core.List.{[], ◌∷◌}
use native.Mathlib.Omega.{arith}
use borrow.Author.Tests.{eq-eqb, ne_eqb}
use Rattle.listing_bytes.specs.Numerals.{decimal}
use Rattle.listing_bytes.proofs.Decimal.{word-short}
use Rattle.listing_bytes.proofs.Writing.{writes-none, item}
use Rattle.listing_lines.proofs.put_objects.Goals as goal

pub put_number-two-requires : goal.put_number-two-requires
put_number-two-requires c =
    omega (arith, c.put_number-one.ensures.next, word-short c.args.first c.ranges.first)

pub returns-then-third-eq-NONE : goal.returns-then-third-eq-NONE
returns-then-third-eq-NONE c =
    rw (ne_eqb c.args.first 255 c.if-first-eq-NONE.false, ne_eqb c.args.second 255 c.if-second-eq-NONE.false, eq-eqb c.args.third 255 c.if-third-eq-NONE.true)
    (item [] (decimal c.args.first ∷ []) (item [] [] (writes-none c.args.out.now c.args.at (omega arith)) c.put_number-one.ensures) c.put_number-two.ensures)

pub put_number-requires : goal.put_number-requires
put_number-requires c =
    omega (arith, c.put_number-two.ensures.next, c.put_number-one.ensures.next, word-short c.args.first c.ranges.first, word-short c.args.second c.ranges.second)

pub returns : goal.returns
returns c =
    rw (ne_eqb c.args.first 255 c.if-first-eq-NONE.false, ne_eqb c.args.second 255 c.if-second-eq-NONE.false, ne_eqb c.args.third 255 c.if-third-eq-NONE.false)
    (item [] (decimal c.args.first ∷ decimal c.args.second ∷ [])
    (item [] (decimal c.args.first ∷ []) (item [] [] (writes-none c.args.out.now c.args.at (omega arith)) c.put_number-one.ensures) c.put_number-two.ensures)
    c.put_number.ensures)
