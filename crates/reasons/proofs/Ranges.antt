-- `any` over a range from 0, said of the numbers in it.
use mathlib.Core.Path.{◌≡◌, sym, ap, ◌∙◌, subst}
use mathlib.Core.Bool.{Bool, true, false}
use Rattle.std.specs.Prelude.{Option, Some, unwrap_or}
use Prim.Native.Nat.{ℕ, ◌<◌}
use native.Mathlib.Omega.{arith}
use lib.ListN.{length, get_or}
use Rattle.std.proofs.lemmas.List.FromFn.{length-range_with_len, get_or-range_with_len}
use Rattle.std.specs.Bool.{MatchBool}
use Rattle.std.specs.List.{range_with_len, AllWithin, HoldsAt}
use Rattle.replay_session.specs.Sessions.{Says}

place : (n k : ℕ) → k < n → get_or (range_with_len 0 n) k 0 ≡ k
place n k l = omega (arith, get_or-range_with_len 0 n k 0 l)

pub any_below : (n : ℕ) (Yes : ℕ → Type 0) (r : Bool) → MatchBool r ((k : ℕ) × (k < length (range_with_len 0 n)) × HoldsAt Yes (range_with_len 0 n) k) (AllWithin (λ x. Yes x → ⊥) (range_with_len 0 n) 0 (length (range_with_len 0 n))) → Says ((x : ℕ) × (x < n) × Yes x) r
any_below n Yes true (k, l, h) = let here : k < n = omega (arith, l, length-range_with_len 0 n) in (k, here, subst Yes (place n k here) (h 0))
any_below n Yes false h = λ (x, l, y). h x 0 (omega arith) (omega (arith, length-range_with_len 0 n)) (subst Yes (sym (place n x l)) y)

-- an object that is there, and two facts of a number
pub beside : (o : Option ℕ) (d n : ℕ) (B : ℕ → Type 0) (C : ℕ → ℕ → Type 0) → o ≡ Some d → (r : Bool) → Says ((x : ℕ) × (x < n) × (B x × C d x)) r → Says ((e : ℕ) × (o ≡ Some e) × ((x : ℕ) × (x < n) × B x × C e x)) r
beside o d n B C a true h = (d, a, (h.0, h.1, h.2.0, h.2.1))
beside o d n B C a false h = λ q. h (q.2.0, q.2.1, (q.2.2, subst (λ (e : ℕ). C e q.2.0) (ap (λ (k : Option ℕ). unwrap_or k d) (sym q.1 ∙ a)) q.2.3))
