use mathlib.Core.Path.{◌≡◌, ap, ◌∙◌}
use Prim.Native.Nat.{ℕ}
use lib.ListN.{replicate}
use lib.Seq.{length-take-le}
use Rattle.limits.specs.Limits as limit
use Rattle.calls.specs.Wiping.{wiped}
use Rattle.calls.proofs.wipe.Goals as goal

pub returns : goal.returns
unfolding wiped
returns c =
    let e : c.fill.new.self ≡ replicate limit.work 0 = c.fill.ensures.after (λ y h. h) ∙ ap (λ (n : ℕ). replicate n 0) (length-take-le limit.work c.args.work.now c.requires) in
    cc
