-- The state after a `next` line, put together relation by relation; and that doing its work twice is doing it once.
use mathlib.Core.Path.{◌≡◌, refl, sym, ap, ◌∙◌}
use mathlib.Core.Logic.{⊎_elim, ◌≢◌}
use mathlib.Core.Bool.{Bool, true, false, ◌&&◌, ◌||◌, false≢true}
use Prim.Native.Nat.{ℕ, ◌+◌, ◌^◌, ◌≤◌, ◌<◌}
use native.Mathlib.Omega.{arith}
use lib.Dec.{ltb}
use borrow.Author.Tests.{eq-eqb, ne_eqb, lt-ltb, le-ltb, ltb-true, ltb-false}
use Rattle.std.proofs.lemmas.Bool.{cases_Bool}
use Rattle.semantics.specs.Labels.{has, union, relabel}
use Rattle.semantics.proofs.Tools.{same?}
use Rattle.semantics.proofs.Sets.{has-union, has-relabel, has-beyond, has-ext, has_one}
use Rattle.semantics.proofs.FourCases.{relabel-twice}

-- the relations below n of t are done, and no others are there
abbrev pub Done : ℕ → ℕ → ℕ → Type 0
Done t n u = (b : ℕ) → has u b ≡ (ltb b n && has t b)

pub done_none : (t : ℕ) → Done t 0 0
done_none t b = rw (le-ltb b 0 (omega arith)) (has-beyond 0 b 0 (omega arith) (omega arith))

-- one relation more
module _ (t n u : ℕ) (d : Done t n u) where
  here : (b : ℕ) → b ≡ n → ltb b (n + 1) ≡ true
  here b e = lt-ltb b (n + 1) (omega arith)

  other : (b : ℕ) → b ≢ n → ltb b (n + 1) ≡ ltb b n
  other b e = ⊎_elim
      (λ (q : ltb b n ≡ true). lt-ltb b (n + 1) (let l = ltb-true b n q in omega arith) ∙ sym q)
      (λ (q : ltb b n ≡ false). le-ltb b (n + 1) (let l = ltb-false b n q in omega arith) ∙ sym q)
      (cases_Bool (ltb b n))

  pub done-set : has t n ≡ true → Done t (n + 1) (union u (2 ^ n))
  done-set h b = has-union u (2 ^ n) b ∙ ⊎_elim
      (λ (e : b ≡ n). rw (d b, has_one n b, eq-eqb b n e, here b e, e, h, le-ltb n n (omega arith)))
      (λ (e : b ≢ n). rw (d b, has_one n b, ne_eqb b n e, other b e) (or-none (ltb b n && has t b)))
      (same? b n)
    where
      or-none : (x : Bool) → (x || false) ≡ x
      or-none true = refl
      or-none false = refl

  pub done-clear : has t n ≡ false → Done t (n + 1) u
  done-clear h b = d b ∙ ⊎_elim
      (λ (e : b ≡ n). rw (here b e, e, h, le-ltb n n (omega arith)))
      (λ (e : b ≢ n). rw (other b e))
      (same? b n)

-- where the test of the code says so, neither of two numbers has one
pub none_left : (s t m : ℕ) → (ltb s m && ltb t m) ≡ true → (s < m) × (t < m)
none_left s t m e = let (p, q) = both (ltb s m) (ltb t m) e in (ltb-true s m p, ltb-true t m q)
  where
    both : (a b : Bool) → (a && b) ≡ true → (a ≡ true) × (b ≡ true)
    both true b e = (refl, e)
    both false b e = absurd (false≢true e)

-- all relations of a state after a `next` line, where neither the state nor the first list has one from n on
pub done_all : (s plus minus n u : ℕ) → s < 2 ^ n → plus < 2 ^ n → Done (relabel s plus minus) n u → u ≡ relabel s plus minus
done_all s plus minus n u hs hp d = has-ext u (relabel s plus minus) (λ b. d b ∙ ⊎_elim
    (λ (q : ltb b n ≡ true). rw q)
    (λ (q : ltb b n ≡ false). rw (q, beyond b (ltb-false b n q)))
    (cases_Bool (ltb b n)))
  where
    beyond : (b : ℕ) → n ≤ b → has (relabel s plus minus) b ≡ false
    beyond b h = has-relabel s plus minus b ∙ rw (has-beyond s b n hs h, has-beyond plus b n hp h)

-- "doing a step's work on an object twice leaves what doing it once leaves", of the code's function: what its promise says of two calls
pub twice : (s plus minus once again : ℕ) → once ≡ relabel s plus minus → again ≡ relabel once plus minus → again ≡ once
twice s plus minus once again e f = f ∙ ap (λ (x : ℕ). relabel x plus minus) e ∙ relabel-twice s plus minus ∙ sym e
