-- What the row that comes before the lines tells of a call.
use mathlib.Core.Path.{◌≡◌, refl}
use mathlib.Core.Logic.{◌≢◌}
use mathlib.Core.Bool.{Bool, true, false, cond, ◌||◌}
use mathlib.Core.List.{List}
use Prim.Native.Nat.{ℕ}
use native.Mathlib.Omega.{arith}
use lib.Dec.{eqb, ltb}
use lib.ListN.{length}
use borrow.Author.Tests.{ne_eqb}
use Rattle.limits.specs.Limits as limit
use Rattle.grammar.specs.Texts.{refused, outcome}
use Rattle.calls.specs.Calls.{early, called}

-- a row before the lines is the answer, with line 0
pub called-early : (text : List ℕ) (short long : Bool) → early (length text) short long ≢ 0 → called text short long ≡ refused (early (length text) short long) 0
unfolding called
called-early text short long e = rw (ne_eqb (early (length text) short long) 0 e) refl

-- without one, the lines are
pub called-lines : (text : List ℕ) (short long : Bool) → early (length text) short long ≡ 0 → called text short long ≡ outcome text
unfolding called
called-lines text short long e = rw e refl

-- and then the buffers and the run have their sizes
rows : (b short long : Bool) → ◌≡◌ {A = ℕ} (cond b 1 (cond short 12 (cond long 14 0))) 0 → (short ≡ false) × (long ≡ false)
rows true short long e = absurd (omega arith)
rows false true long e = absurd (omega arith)
rows false false true e = absurd (omega arith)
rows false false false e = (refl, refl)

pub sizes : (bytes : ℕ) (short long : Bool) → early bytes short long ≡ 0 → (short ≡ false) × (long ≡ false)
unfolding early
sizes bytes short long e = rows (eqb bytes 0 || ltb limit.text bytes) short long e
