use native.Mathlib.Omega.{arith}
use Prim.Native.Nat.{ℕ}
use Rattle.model.specs.Places.{place_of}
use Rattle.listing_lines.specs.Lines.{line_for}
use Rattle.listing.proofs.Laws.{line-more}
use Rattle.listing.proofs.put_run.Goals as goal

pub loop-place-preserved : goal.loop-place-preserved
loop-place-preserved c =
    let l = c.loop-place in
    let w = c.put_place-next.ensures in
    (line-more (λ (n : ℕ). line_for (place_of n)) c.args.run.now l.place-index (omega arith) l.invariant.0 w.0, omega (arith, w.1, l.invariant.1))
