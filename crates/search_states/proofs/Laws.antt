-- What adding a state does to the row, and noting the empty one.
use mathlib.Core.Path.{◌≡◌, refl, sym, ap, ◌∙◌}
use mathlib.Core.Logic.{⊎_elim, ◌≢◌}
use mathlib.Core.Bool.{true, false, false≢true}
use mathlib.Core.List.{List, [], ◌∷◌, ◌++◌}
use Prim.Native.Nat.{ℕ, ◌≤◌, ◌<◌}
use native.Mathlib.Omega.{arith}
use native.Mathlib.Numerals.{add-one}
use borrow.Author.Tests.{eqb-true, eqb-false, eq-eqb, ne_eqb, lt-ltb, le-ltb}
use lib.Dec.{eqb}
use Rattle.std.proofs.lemmas.Bool.{cases_Bool, or_cases}
use Rattle.std.specs.Prelude.{Option, Some, None}
use lib.ListN.{length, length-set}
use lib.Seq.{take-suc-set, length-take-le, get_or-set_same, get_or-set_other}
use Rattle.limits.specs.Limits as limit
use Rattle.semantics.specs.Models.{elem, Program, line, Distinct}
use Rattle.semantics.specs.Tables.{From}
use Rattle.semantics.proofs.Tools.{clash, or-false, elem-cases}
use Rattle.semantics.proofs.Growth.{founded-more}
use Rattle.search_states.specs.declared.Arrival.{Arrival}
use Rattle.search_states.specs.declared.States.{States}
use Rattle.search_states.specs.States.{row, unarrived, arrival, by, from, nothing, appended, noted, added, Proper, Discovered}

pub only_one : (x y : ℕ) → elem x (y ∷ []) ≡ true → x ≡ y
only_one x y e = ⊎_elim (λ q. eqb-true x y q) (λ q. absurd (false≢true q)) (or_cases (eqb x y) false e)

-- a new element keeps a list distinct
pub distinct_snoc : (xs : List ℕ) (t : ℕ) → Distinct xs → elem t xs ≡ false → Distinct (xs ++ (t ∷ []))
distinct_snoc [] t d e = (refl, tt)
distinct_snoc (x ∷ xs) t d e =
    let p = or-false (eqb t x) (elem t xs) e in (
      ⊎_elim
          (λ (q : elem x (xs ++ (t ∷ [])) ≡ true). ⊎_elim (λ r. clash r d.0) (λ r. absurd (eqb-false t x p.0 (sym (only_one x t r)))) (elem-cases x xs (t ∷ []) q))
          (λ (q : elem x (xs ++ (t ∷ [])) ≡ false). q)
          (cases_Bool (elem x (xs ++ (t ∷ [])))),
      distinct_snoc xs t d.1 p.1,
    )

-- by what the tests of adding say
pub added-empty : (s : States) (t ℓ p : ℕ) → t ≡ 0 → Some (noted s) ≡ added s t ℓ p
unfolding added
added-empty s t ℓ p z = rw (eq-eqb t 0 z)

pub added-same : (s : States) (t ℓ p : ℕ) → t ≢ 0 → elem t (row s) ≡ true → Some s ≡ added s t ℓ p
unfolding added
added-same s t ℓ p n e = rw (ne_eqb t 0 n, e)

pub added-fresh : (s : States) (t ℓ p : ℕ) → t ≢ 0 → elem t (row s) ≡ false → s.count < limit.atomic → Some (appended s t ℓ p) ≡ added s t ℓ p
unfolding added
added-fresh s t ℓ p n e l = rw (ne_eqb t 0 n, e, lt-ltb s.count limit.atomic l)

pub added-over : (s : States) (t ℓ p : ℕ) → t ≢ 0 → elem t (row s) ≡ false → limit.atomic ≤ s.count → ◌≡◌ {A = Option States} None (added s t ℓ p)
unfolding added
added-over s t ℓ p n e l = rw (ne_eqb t 0 n, e, le-ltb s.count limit.atomic l)

-- the row of no states
pub proper-nothing : Proper nothing
proper-nothing =
    record { count = omega arith; states = refl; arrivals = refl; distinct = tt; atomic = λ t e. absurd (false≢true e) }

pub discovered-nothing : (P : Program) → Discovered P nothing
discovered-nothing P i l = absurd (omega arith)

module _ (s : States) (proper : Proper s) where
  pub length-row : length (row s) ≡ s.count
  length-row = let a = proper.count in let b = proper.states in length-take-le s.count s.states (omega arith)

  -- the empty state is not in the row
  pub row-full : elem 0 (row s) ≡ true → ⊥
  row-full e = omega (arith, (proper.atomic 0 e).0)

  -- NOTING THE EMPTY STATE keeps the row right
  pub proper-noted : Proper (noted s)
  proper-noted =
      record { count = proper.count; states = proper.states; arrivals = proper.arrivals; distinct = proper.distinct; atomic = proper.atomic }

  module _ (t : ℕ) (some : t ≢ 0) (small : t < limit.sets) (fresh : elem t (row s) ≡ false) (room : s.count < limit.atomic) where
    module _ (ℓ p : ℕ) where
      abbrev came : Arrival
      came = record { line = ℓ; origin = p }

      pub row_appended : row (appended s t ℓ p) ≡ row s ++ (t ∷ [])
      row_appended = rw add-one (take-suc-set s.states s.count t (let r = room in let b = proper.states in omega arith))

      -- ADDING A STATE keeps the row right
      pub proper-appended : Proper (appended s t ℓ p)
      proper-appended =
          record {
            count = let r = room in omega arith;
            states = length-set s.states s.count t ∙ proper.states;
            arrivals = length-set s.arrivals s.count came ∙ proper.arrivals;
            distinct = rw row_appended (distinct_snoc (row s) t proper.distinct fresh);
            atomic = λ x e. ⊎_elim
                (λ q. proper.atomic x q)
                (λ q. rw (only_one x t q) (omega (arith, some), small))
                (elem-cases x (row s) (t ∷ []) (rw row_appended at e));
          }

      kept_by : (i : ℕ) → i < length (row s) → (by s i ≡ by (appended s t ℓ p) i) × (from s i ≡ from (appended s t ℓ p) i)
      kept_by i l =
          let n : i ≢ s.count = λ e. omega (arith, length-row) in
          let e = sym (get_or-set_other s.arrivals s.count i came unarrived n) in
          (ap (λ (a : Arrival). a.line) e, ap (λ (a : Arrival). a.origin) e)

      pub discovered-appended : (P : Program) → Discovered P s → From P (row s) t p (line P ℓ) → Discovered P (appended s t ℓ p)
      discovered-appended P d f =
          rw row_appended
          (founded-more P (row s) t (by s) (from s) (by (appended s t ℓ p)) (from (appended s t ℓ p)) kept_by d here)
        where
          arrived : arrival (appended s t ℓ p) (length (row s)) ≡ came
          arrived = rw length-row (get_or-set_same s.arrivals s.count came unarrived (let r = room in let q = proper.arrivals in omega arith))

          here : From P (row s) t (from (appended s t ℓ p) (length (row s))) (line P (by (appended s t ℓ p) (length (row s))))
          here = rw (by, from, arrived) f
