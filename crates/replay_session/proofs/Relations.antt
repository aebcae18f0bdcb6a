-- A set whose relations are among the first n is a number below 2 ^ n, and the other way round.
use mathlib.Core.Path.{◌≡◌, refl, sym, ◌∙◌}
use mathlib.Core.Logic.{◌≢◌, ⊎_elim}
use mathlib.Core.Bool.{Bool, true, false}
use mathlib.Core.List.{List}
use Prim.Native.Nat.{ℕ, ◌+◌, ◌^◌, ◌/◌, ◌≤◌, ◌<◌}
use native.Mathlib.Omega.{arith}
use native.Mathlib.Decide.{dec_le}
use native.Mathlib.Nat.{div-div-eq-div-mul, div-lt_iff_lt-mul}
use lib.Pow.{pow_pos, pow-add}
use lib.Dec.{eqb}
use lib.ListN.{length, get_or}
use Rattle.std.proofs.lemmas.Bool.{cases_Bool}
use Rattle.std.proofs.Common.{count_by, nat_lt, rules}
use Rattle.std.proofs.lemmas.List.Recursion.{is_count_by}
use Rattle.std.proofs.lemmas.Bool.Decides.{nat_tests}
use Rattle.std.specs.Bool.{MatchBool}
use Rattle.std.specs.List.{HoldsAt, AllWithin}
use Rattle.semantics.specs.Labels.{has}
use Rattle.semantics.proofs.Tools.{clash, has-empty}
use Rattle.semantics.proofs.Sets.{has-beyond, has-ext}
use Rattle.model.specs.WellFormed.{class_of, in_class}
use Rattle.replay_session.specs.Sessions.{Says}

abbrev pub Among : ℕ → ℕ → Type 0
Among n s = (a : ℕ) → has s a ≡ true → a < n

pub among_below : (n s : ℕ) → s < 2 ^ n → Among n s
among_below n s h a e = go (dec_le n a)
  where
    go : Dec (n ≤ a) → a < n
    go (yes l) = clash e (has-beyond s a n h l)
    go (no l) = omega arith

pub shifted-below : (n s : ℕ) → s / 2 ^ n ≡ 0 → s < 2 ^ n
shifted-below n s e = let h = (div-lt_iff_lt-mul {k = 2 ^ n} {x = s} {y = 1} (pow_pos n)).0 (omega arith) in omega arith

has-shift : (s n a : ℕ) → has (s / 2 ^ n) a ≡ has s (n + a)
unfolding has
has-shift s n a = rw (div-div-eq-div-mul, ← pow-add)

pub among-shifted : (n s : ℕ) → Among n s → s / 2 ^ n ≡ 0
among-shifted n s h = has-ext (s / 2 ^ n) 0 (λ a. has-shift s n a ∙ ⊎_elim (λ e. absurd (let l = h (n + a) e in omega arith)) (λ e. e) (cases_Bool (has s (n + a))) ∙ sym (has-empty a))

pub among-small : (n s : ℕ) → Among n s → s < 2 ^ n
among-small n s h = shifted-below n s (among-shifted n s h)

-- none of the states has a relation but the first n, or one of them has
pub shifted-says : (n : ℕ) (ss : List ℕ) (r : Bool) → MatchBool r (AllWithin (λ s. s / 2 ^ n ≡ 0) ss 0 (length ss)) ((k : ℕ) × (k < length ss) × HoldsAt (λ s. s / 2 ^ n ≢ 0) ss k)
    → Says ((o a : ℕ) → o < length ss → has (get_or ss o 0) a ≡ true → a < n) r
shifted-says n ss true h = λ o a l e. among_below n (get_or ss o 0) (shifted-below n (get_or ss o 0) (h o 0 (omega arith) l)) a e
shifted-says n ss false h = λ all. h.2 0 (among-shifted n (get_or ss h.0 0) (λ a e. all h.0 a h.1 e))

class-below : (r : ℕ) → eqb (class_of r) 0 ≡ nat_lt r 32
class-below r = grind (arith, nat_tests)

-- the state relations are the codes below 32
pub in_class-count : (rs : List ℕ) → in_class 0 rs ≡ count_by (λ r. nat_lt r 32) rs
in_class-count = is_count_by (in_class 0) (λ r. nat_lt r 32) refl (λ r rs. rw (class-below r) (search rules))
