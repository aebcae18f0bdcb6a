-- `any` and `all` over a range, said of the numbers in it.
use mathlib.Core.Path.{◌≡◌, refl, subst}
use mathlib.Core.Bool.{Bool, true, false}
use mathlib.Core.List.{List}
use Prim.Native.Nat.{ℕ, ◌+◌, ◌-◌, ◌≤◌, ◌<◌}
use native.Mathlib.Omega.{arith}
use denote.Param.Members.{Mut}
use lib.ListN.{length}
use Rattle.std.specs.Prelude.{Option}
use Rattle.std.proofs.iter.Yields.{nat_range_steps}
use Rattle.std.proofs.lemmas.Iterator.{YieldsList-from_range, cases_from_any, cases_from_all}
use Rattle.std.proofs.lemmas.List.FromFn.{length-range_with_len, get_or-range_with_len}
use Rattle.std.specs.Bool.{MatchBool}
use Rattle.std.specs.Fn.{Called}
use Rattle.std.specs.Iterator.{YieldsThen}
use Rattle.std.specs.List.{range_with_len, FoldsTo, AllWithin, HoldsAt}
use Rattle.std.specs.Option.{MatchOption}
use Rattle.std.specs.declared.ops.Range.{Range}

module _ (s : Range ℕ) where
  abbrev all : List ℕ
  all = range_with_len s.start (s.end - s.start)

  long : length all ≡ s.end - s.start
  long = length-range_with_len s.start (s.end - s.start)

  here : (P : ℕ → Type 0) (k : ℕ) → k < length all → HoldsAt P all k → P (s.start + k)
  here P k l h = subst P (get_or-range_with_len s.start (s.end - s.start) k 0 (omega (arith, l, long))) (h 0)

  each : (P : ℕ → Type 0) → AllWithin P all 0 (length all) → (k : ℕ) → s.start ≤ k → k < s.end → P k
  each P h k a b = subst P {x = s.start + (k - s.start)} (omega arith) (here P (k - s.start) (omega (arith, long)) (λ d. h (k - s.start) d (omega arith) (omega (arith, long))))

  some : (P : ℕ → Type 0) → (k : ℕ) × (k < length all) × HoldsAt P all k → (k : ℕ) × (s.start ≤ k) × (k < s.end) × P k
  some P h = (s.start + h.0, omega arith, omega (arith, h.1, long), here P h.0 h.1 h.2)

module _ {F : Type 0} {g : Mut F (ℕ × Unit {0}) Bool} (s u : Range ℕ) (f : F) (r : Bool) (Yes No : ℕ → Type 0) where
  pub any_over : (xs : List ℕ) × (o : Option ℕ) × (j : F) × YieldsThen nat_range_steps s xs o u × FoldsTo (λ p x q. Called g p (x, tt) false q) f xs j × MatchOption o (r ≡ false) (λ x. (r ≡ true) × ((h : F) × Called g j (x, tt) true h))
      → ((x : ℕ) (q : F) → Called g f (x, tt) true q → Yes x) → ((x : ℕ) (q : F) → Called g f (x, tt) false q → (q ≡ f) × No x)
      → MatchBool r ((k : ℕ) × (s.start ≤ k) × (k < s.end) × Yes k) ((k : ℕ) → s.start ≤ k → k < s.end → No k)
  any_over d y n = let h = cases_from_any u f r Yes No d (YieldsList-from_range s.start s.end _ refl refl) y n in by r h
    where
      by : (b : Bool) → MatchBool b ((k : ℕ) × (k < length (all s)) × HoldsAt Yes (all s) k) (AllWithin No (all s) 0 (length (all s))) → MatchBool b ((k : ℕ) × (s.start ≤ k) × (k < s.end) × Yes k) ((k : ℕ) → s.start ≤ k → k < s.end → No k)
      by true h = some s Yes h
      by false h = each s No h

  pub all_over : (xs : List ℕ) × (o : Option ℕ) × (j : F) × YieldsThen nat_range_steps s xs o u × FoldsTo (λ p x q. Called g p (x, tt) true q) f xs j × MatchOption o (r ≡ true) (λ x. (r ≡ false) × ((h : F) × Called g j (x, tt) false h))
      → ((x : ℕ) (q : F) → Called g f (x, tt) true q → (q ≡ f) × Yes x) → ((x : ℕ) (q : F) → Called g f (x, tt) false q → No x)
      → MatchBool r ((k : ℕ) → s.start ≤ k → k < s.end → Yes k) ((k : ℕ) × (s.start ≤ k) × (k < s.end) × No k)
  all_over d y n = let h = cases_from_all u f r Yes No d (YieldsList-from_range s.start s.end _ refl refl) y n in by r h
    where
      by : (b : Bool) → MatchBool b (AllWithin Yes (all s) 0 (length (all s))) ((k : ℕ) × (k < length (all s)) × HoldsAt No (all s) k) → MatchBool b ((k : ℕ) → s.start ≤ k → k < s.end → Yes k) ((k : ℕ) × (s.start ≤ k) × (k < s.end) × No k)
      by true h = each s Yes h
      by false h = some s No h
