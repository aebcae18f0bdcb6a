-- A side's part of a round, and the numbers before the first round, slot by slot.
use mathlib.Core.Path.{◌≡◌, refl, sym, ◌∙◌}
use mathlib.Core.Bool.{Bool, true, false, not, false≢true, true≢false}
use mathlib.Core.List.{List}
use Prim.Native.Nat.{ℕ, suc, ◌+◌, ◌≤◌, ◌<◌}
use native.Mathlib.Omega.{arith}
use borrow.Author.Count.{below_more}
use lib.ListN.{length, set, length-set}
use lib.Seq.{get_or-set_same, get_or-set_other}
use Rattle.std.specs.Prelude as prelude
use Rattle.std.specs.Prelude.{is_some}
use Rattle.games.specs.Game.{Side}
use Rattle.game_rounds.specs.Board.{Number, number_at, ready_by, given, Turned}

-- what the test for none says
pub none-so : (v : Number) (r : Bool) → is_some v ≡ not r → r ≡ true → v ≡ prelude.None
none-so (prelude.Some v) true h q = absurd (true≢false h)
none-so (prelude.Some v) false h q = absurd (false≢true q)
none-so prelude.None r h q = refl

pub some-so : (v : Number) (r : Bool) → is_some v ≡ not r → r ≡ false → is_some v ≡ true
some-so v true h q = absurd (true≢false q)
some-so v false h q = h

-- THE SLOTS BELOW e have had their turn, and the others have not
module _ (a : Side) (w : List ℕ) (n : ℕ) (ranks₀ others : List Number) (round : ℕ) where
  -- whether slot k can get a number
  abbrev can : ℕ → Bool
  can k = ready_by a w k n others round

  pub record Partly (e : ℕ) (ranks : List Number) (changed : Bool) : Type 0 where
    pub long : length ranks ≡ length ranks₀
    pub done : (k : ℕ) → k < e → number_at ranks k ≡ given (number_at ranks₀ k) (can k) round
    pub rest : (k : ℕ) → e ≤ k → number_at ranks k ≡ number_at ranks₀ k
    pub some : changed ≡ true → (k : ℕ) × (k < e) × (number_at ranks₀ k ≡ prelude.None) × (can k ≡ true)
    pub same : changed ≡ false → (k : ℕ) → k < e → number_at ranks k ≡ number_at ranks₀ k

  module _ (e : ℕ) (ranks : List Number) (changed : Bool) (p : Partly e ranks changed) where
    -- slot e gets the round's number
    pub partly-given : e < length ranks → number_at ranks e ≡ prelude.None → can e ≡ true → Partly (e + 1) (set ranks e (prelude.Some round)) true
    partly-given l z q =
        let z₀ = sym (p.rest e (omega arith)) ∙ z in
        record {
          long = length-set ranks e (prelude.Some round) ∙ p.long;
          done = below_more _ _ (λ k h. get_or-set_other ranks e k (prelude.Some round) prelude.None (λ y. omega (arith, h, y)) ∙ p.done k h) (get_or-set_same ranks e (prelude.Some round) prelude.None l ∙ rw (z₀, q) refl);
          rest = λ k h. get_or-set_other ranks e k (prelude.Some round) prelude.None (λ y. omega (arith, h, y)) ∙ p.rest k (omega (arith, h));
          some = λ y. (e, omega arith, z₀, q);
          same = λ y. absurd (true≢false y);
        }

    -- slot e stays as it is
    pub partly-kept : number_at ranks₀ e ≡ given (number_at ranks₀ e) (can e) round → Partly (e + 1) ranks changed
    partly-kept q =
        record {
          long = p.long;
          done = below_more _ _ p.done (p.rest e (omega arith) ∙ q);
          rest = λ k h. p.rest k (omega (arith, h));
          some = λ y. let r = p.some y in (r.0, omega (arith, r.1), r.2, r.3);
          same = λ y. below_more _ _ (p.same y) (p.rest e (omega arith));
        }

  -- it cannot get one, or has one
  pub kept-none : (e : ℕ) → can e ≡ false → number_at ranks₀ e ≡ given (number_at ranks₀ e) (can e) round
  kept-none e q = rw q (unready (number_at ranks₀ e))
    where
      unready : (v : Number) → v ≡ given v false round
      unready (prelude.Some v) = refl
      unready prelude.None = refl

  pub kept-own : (e : ℕ) → is_some (number_at ranks₀ e) ≡ true → number_at ranks₀ e ≡ given (number_at ranks₀ e) (can e) round
  kept-own e z = own (number_at ranks₀ e) (can e) z
    where
      own : (v : Number) (b : Bool) → is_some v ≡ true → v ≡ given v b round
      own (prelude.Some v) b h = refl
      own prelude.None b h = absurd (false≢true h)

  -- all have had their turn
  pub partly-all : (e : ℕ) (ranks : List Number) (changed : Bool) → e ≡ suc n → Partly e ranks changed → Turned a w n ranks₀ others round ranks changed
  partly-all e ranks changed z p =
      record {
        long = p.long;
        each = λ k l. p.done k (omega (arith, l, z));
        changed = λ q. let r = p.some q in (r.0, omega (arith, r.1, z), r.2, r.3);
        same = λ q k l. p.same q k (omega (arith, l, z));
      }
