-- The two carried variables, and on which levels they have objects.
use mathlib.Core.Path.{◌≡◌, refl, sym, ◌∙◌, subst, fun_ext}
use mathlib.Core.Logic.{⊎_elim, ◌≢◌}
use mathlib.Core.Bool.{Bool, true, false, ◌||◌, and-false}
use mathlib.Core.Option.{Option}
use Prim.Native.Nat.{ℕ, zero, suc, ◌+◌, ◌-◌, ◌<◌}
use lib.ListN.{length}
use Rattle.std.proofs.lemmas.Bool.{cases_Bool}
use Rattle.std.specs.Bool.{MatchBool}
use Rattle.std.specs.List.{range_with_len, AllWithin, HoldsAt}
use Rattle.std.proofs.lemmas.List.FromFn.{length-range_with_len, get_or-range_with_len}
use native.Mathlib.Omega.{arith}
use native.Mathlib.Nat.{zero-add}
use borrow.Author.Tests.{eq-eqb, ne_eqb}
use Rattle.semantics.specs.Models.{shared}
use Rattle.semantics.specs.Runs.{nobody}
use Rattle.semantics.specs.Walkers as walkers
use Rattle.semantics.specs.Walkers.{but}
use Rattle.semantics.proofs.Tools.{same?, or_right}
use Rattle.model.specs.declared.Model.{Model}
use Rattle.model.specs.Records.{question_of, carried_at}
use Rattle.model.specs.WellFormed.{WellFormed}
use Rattle.model.proofs.Carried.{carried-own, carried-differ, carried-order}
use Rattle.search_levels.specs.Levels.{holder, chosen}
use Rattle.witness_meetings.specs.Meetings.{pair}

pub or_nothing : (a : Bool) → (a || false) ≡ a
or_nothing true = refl
or_nothing false = refl

-- ON WHICH LEVELS: after a stage in which it stands
pub chosen-with : (m : Model) (v k : ℕ) → holder m v k ≡ true → chosen m v (suc k) ≡ true
chosen-with m v k z = or_right (chosen m v k) (holder m v k) z

-- where it stands in none of the first n stages it is not there,
chosen-none : (m : Model) (v n : ℕ) → ((i : ℕ) → i < n → holder m v i ≡ false) → chosen m v n ≡ false
chosen-none m v zero h = refl
chosen-none m v (suc n) h = rw (h n (omega arith), chosen-none m v n (λ i l. h i (omega (arith, l)))) refl

-- and once there, it stays
pub chosen-later : (m : Model) (v i n : ℕ) → chosen m v i ≡ true → chosen m v (n + i) ≡ true
chosen-later m v i zero h = rw zero-add h
chosen-later m v i (suc n) h = rw (let e : suc n + i ≡ suc (n + i) = omega arith in e, chosen-later m v i n h) refl

-- so it is there if it stands in some stage of the first n
pub chosen-any : (m : Model) (v n : ℕ) (r : Bool) → let xs = range_with_len 0 (n - 0) in
    MatchBool r ((k : ℕ) × (k < length xs) × HoldsAt (λ i. holder m v i ≡ true) xs k) (AllWithin (λ i. holder m v i ≡ false) xs 0 (length xs)) → r ≡ chosen m v n
chosen-any m v n true h =
    let l : h.0 < n - 0 = omega (arith, h.1, length-range_with_len 0 (n - 0)) in
    let e : n - suc h.0 + suc h.0 ≡ n = omega (arith, l) in
    let z = subst (λ (i : ℕ). holder m v i ≡ true) (get_or-range_with_len 0 (n - 0) h.0 0 l ∙ zero-add h.0) (h.2 0) in
    sym (subst (λ (k : ℕ). chosen m v k ≡ true) e (chosen-later m v (suc h.0) (n - suc h.0) (chosen-with m v h.0 z)))
chosen-any m v n false h = sym (chosen-none m v n (λ i l.
    let w : i < n - 0 = omega (arith, l) in
    subst (λ (k : ℕ). holder m v k ≡ false) (get_or-range_with_len 0 (n - 0) i 0 w ∙ zero-add i) (h i 0 (omega arith) (omega (arith, w, length-range_with_len 0 (n - 0))))))

module _ (m : Model) (wf : WellFormed m) where
  -- these are the levels on which the variable is followed
  chosen-followed : (v i : ℕ) → chosen m v i ≡ walkers.chosen (question_of m) nobody i (carried_at m v)
  chosen-followed v zero = refl
  chosen-followed v (suc i) = ⊎_elim
      (λ (z : holder m v i ≡ true). rw (chosen-followed v i, z, carried-own m wf v i z) refl)
      (λ (z : holder m v i ≡ false). rw (chosen-followed v i, z, and-false (shared (question_of m) (carried_at m v))) refl) (cases_Bool (holder m v i))

  -- IN ORDER: where the second is there, the first is
  pub first-there : (i : ℕ) → chosen m 1 i ≡ true → chosen m 0 i ≡ true
  first-there i h = chosen-followed 0 i ∙ carried-order m wf i (sym (chosen-followed 1 i) ∙ h)

  -- where the first stands in a stage, the second is another variable
  pub variables-apart : (k : ℕ) → holder m 0 k ≡ true → carried_at m 0 ≢ carried_at m 1
  variables-apart k h q = absurd (let z = carried-differ m wf 0 1 (omega arith) (carried-own m wf 0 k h) q in omega arith)

-- WHAT STANDS FOR THE TWO
module _ (m : Model) where
  -- a relation of what stands for a variable in two pairs
  pub pair-each : (R : Option ℕ → Option ℕ → Type 0) (w w' : ℕ → Option ℕ) (a c a' c' : Option ℕ) (x : ℕ) → (x ≡ carried_at m 0 → R a a') → (x ≡ carried_at m 1 → R c c') → (x ≢ carried_at m 0 → x ≢ carried_at m 1 → R (w x) (w' x))
      → R (pair m w a c x) (pair m w' a' c' x)
  pair-each R w w' a c a' c' x first second neither = ⊎_elim
      (λ q. rw (eq-eqb x (carried_at m 1) q) (second q))
      (λ q. rw (ne_eqb x (carried_at m 1) q) (⊎_elim (λ p. rw (eq-eqb x (carried_at m 0) p) (first p)) (λ p. rw (ne_eqb x (carried_at m 0) p) (neither p q)) (same? x (carried_at m 0)))) (same? x (carried_at m 1))

  module _ (w : ℕ → Option ℕ) where
    pub pair-first : carried_at m 0 ≢ carried_at m 1 → (a c : Option ℕ) → pair m w a c (carried_at m 0) ≡ a
    pair-first n a c = rw (ne_eqb (carried_at m 0) (carried_at m 1) n, eq-eqb (carried_at m 0) (carried_at m 0) refl) refl

    pub pair-second : (a c : Option ℕ) → pair m w a c (carried_at m 1) ≡ c
    pair-second a c = rw (eq-eqb (carried_at m 1) (carried_at m 1) refl) refl

    -- one of them changes
    pub but_first : carried_at m 0 ≢ carried_at m 1 → (a b c : Option ℕ) → but (pair m w a c) (carried_at m 0) b ≡ pair m w b c
    but_first n a b c = fun_ext (λ x. ⊎_elim
        (λ q. rw (eq-eqb x (carried_at m 0) q, ne_eqb x (carried_at m 1) (λ z. n (sym q ∙ z))) refl)
        (λ q. rw (ne_eqb x (carried_at m 0) q) refl) (same? x (carried_at m 0)))

    pub but-second : (a b c : Option ℕ) → but (pair m w a c) (carried_at m 1) b ≡ pair m w a b
    but-second a b c = fun_ext (λ x. ⊎_elim (λ q. rw (eq-eqb x (carried_at m 1) q) refl) (λ q. rw (ne_eqb x (carried_at m 1) q) refl) (same? x (carried_at m 1)))
