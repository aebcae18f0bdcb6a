-- The work area wiped after a call that was lent its first bytes.
use mathlib.Core.Path.{◌≡◌, ap, subst}
use mathlib.Core.List.{List, ◌++◌}
use Prim.Native.Nat.{ℕ, ◌≤◌}
use native.Mathlib.Omega.{arith}
use lib.ListN.{length, drop, replicate, length-append, length-replicate, length-drop}
use lib.Seq.{drop-append_seam}
use Rattle.limits.specs.Limits as limit
use Rattle.calls.specs.Wiping.{wiped}

-- it keeps its length
pub length-wiped : (w : List ℕ) → limit.work ≤ length w → length (wiped w) ≡ length w
unfolding wiped
length-wiped w l = omega (arith, length-append (replicate limit.work 0) (drop limit.work w), length-replicate {A = ℕ} limit.work 0, length-drop limit.work w)

-- what was written to the first bytes is wiped
pub wiped-over : (w part : List ℕ) → length part ≡ limit.work → wiped (part ++ drop limit.work w) ≡ wiped w
unfolding wiped
wiped-over w part e = ap (λ (r : List ℕ). replicate limit.work 0 ++ r) (subst (λ (n : ℕ). drop n (part ++ drop limit.work w) ≡ drop limit.work w) e (drop-append_seam part (drop limit.work w)))
