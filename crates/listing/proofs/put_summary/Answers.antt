-- `report::put_summary` meets its contract.
use native.Mathlib.Omega.{arith}
use Prim.Native.Nat.{◌-◌}
use lib.ListN.{length, drop, length-drop}
use lib.Seq.{length-take-le}
use Rattle.listing_bytes.proofs.Writing.{kept, after}
use Rattle.listing.proofs.Lengths.{verdict-short, states-short}
use Rattle.listing.proofs.Laws.{line_at, from_front}
use Rattle.listing.proofs.put_summary.Goals as goal

pub states_line-second-requires : goal.states_line-second-requires
states_line-second-requires c =
    let v = c.verdict_line-first in
    rw (length-take-le (length v.new.out - v.result) (drop v.result v.new.out) (omega (arith, length-drop v.result v.new.out)))
    (omega (arith, kept (from_front v.ensures), v.ensures.count, verdict-short c.args.reached, c.requires))

pub returns : goal.returns
returns c =
    let w = c.states_line-second in
    let v = c.verdict_line-first in
    let first = from_front v.ensures in (
      after first (line_at v.new.out v.result (length v.new.out - v.result) (omega (arith, v.ensures.room, kept first)) w.ensures),
      omega (arith, v.ensures.count, verdict-short c.args.reached, w.ensures.count, states-short c.args.n c.ranges.n),
    )
