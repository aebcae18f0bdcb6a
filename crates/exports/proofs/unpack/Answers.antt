-- `exports::unpack` meets its contract.
use borrow.Author.Rules.{rules}
use mathlib.Core.Path.{◌≡◌, refl, sym}
use native.Mathlib.Omega.{arith}
use mathlib.Core.List.{[], ◌∷◌}
use Prim.Native.Nat.{ℕ, ◌<◌}
use Rattle.std.specs.Prelude.{None, IfSome}
use lib.ListN.{length, get_or}
use mir.Syntax.{w32}
use mir.Val.{Fits}
use lib.Seq.{length-take-le}
use Rattle.replay_meetings.proofs.Objects.{each-cell}
use Rattle.exports.proofs.Cells.{object-small}
use Rattle.exports.proofs.unpack.Goals as goal
use Rattle.exports.proofs.unpack.Goals.{Start}

-- the row of cells has its size
whole : (c : Start) → length c.args.cells ≡ 260
whole c = search rules

-- each cell has 32 bits
narrow : (c : Start) (i : ℕ) → Fits w32 (get_or c.args.cells i 0)
narrow c i = search rules

pub slice_bounds-copy_from_slice-end-2 : goal.slice_bounds-copy_from_slice-end-2
slice_bounds-copy_from_slice-end-2 c = sym (length-take-le 255 c.args.cells (omega (arith, whole (goal.at.slice_bounds-copy_from_slice-end-2 c).Start)))

pub copy_from_slice-requires : goal.copy_from_slice-requires
copy_from_slice-requires c = sym (length-take-le 255 c.args.cells (omega (arith, whole (goal.at.copy_from_slice-requires c).Start)))

pub returns : goal.returns
returns c =
    let first = c.as_object-first in
    let second = c.as_object-second in (
      rw (c.copy_from_slice.ensures.after, first.ensures, second.ensures) refl,
      record {
        objects = (narrow (goal.at.returns c).Start 255).fits;
        met = (narrow (goal.at.returns c).Start 256).fits;
        carried = each-cell (λ (v : ℕ). IfSome (get_or (first.result ∷ second.result ∷ []) v None) (λ o. o < 4294967296))
            (rw first.ensures (object-small _ _ (narrow (goal.at.returns c).Start 257).fits))
            (rw second.ensures (object-small _ _ (narrow (goal.at.returns c).Start 258).fits));
        kept = (narrow (goal.at.returns c).Start 259).fits;
      },
    )
