-- `report::put_state` meets its contract.
use native.Mathlib.Omega.{arith}
use Prim.Native.Nat.{◌+◌, ◌-◌}
use Rattle.listing_lines.specs.Lines.{longest}
use Rattle.listing.proofs.Laws.{line_at, part_length}
use Rattle.listing.proofs.put_state.Goals as goal

pub returns : goal.returns
returns c =
    let w = c.atomic_line-n.ensures in
    let d = c.args.out.now in
    let k = c.args.at + longest - c.args.at in
    (line_at d c.args.at k (omega (arith, c.requires.2)) w, omega (arith, w.room, part_length d c.args.at k (omega (arith, c.requires.2))))
