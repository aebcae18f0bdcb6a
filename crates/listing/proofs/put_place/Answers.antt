-- `report::put_place` meets its contract.
use native.Mathlib.Omega.{arith}
use Prim.Native.Nat.{◌-◌}
use lib.ListN.{length}
use Rattle.listing.proofs.Lengths.{place_short}
use Rattle.listing.proofs.Laws.{line_at}
use Rattle.listing.proofs.put_place.Goals as goal

pub returns : goal.returns
returns c =
    let w = c.place_line-k.ensures in
    let d = c.args.out.now in
    (line_at d c.args.at (length d - c.args.at) (omega (arith, c.requires)) w, omega (arith, w.count, place_short c.args.n c.ranges.n))
