-- The first variable of stage 1 among the carried ones.
use mathlib.Core.Path.{◌≡◌, refl, sym, ap, ◌∙◌, subst}
use mathlib.Core.Logic.{⊎_elim, ◌≢◌}
use mathlib.Core.Bool.{Bool, true, false}
use mathlib.Core.List.{List, [], ◌∷◌, ◌++◌, map}
use Prim.Native.Nat.{ℕ, suc, ◌-◌, ◌≤◌, ◌<◌}
use native.Mathlib.Omega.{arith}
use borrow.Author.Tests.{eqb-true, eqb-false}
use lib.ListN.{get_or}
use Rattle.std.proofs.lemmas.Bool.{cases_Bool}
use Rattle.limits.specs.Limits as limit
use Rattle.semantics.specs.Models.{elem, Question, vars, firsts, names, standing, only, shared, carriers}
use Rattle.semantics.proofs.Tools.{clash}
use Rattle.semantics.proofs.WalkersPaper.{stands-alone}
use Rattle.model.specs.declared.Model.{Model}
use Rattle.model.specs.Records.{up_from, number_in, question_of, stage_at, padded, carried_at}
use Rattle.model.specs.WellFormed.{WellFormed}
use Rattle.model.proofs.Accepted.{stage-here, stage-names}
use Rattle.model.proofs.Carried.{carried-own, carried-differ}
use Rattle.search_levels.specs.Levels.{holder}
use Rattle.witness_meetings.specs.Meetings.{first_variable}
use Rattle.witness_meetings.proofs.Laws.{has-variable}
use Rattle.witness_from.specs.From.{first_carried}

-- IN ORDER OF FIRST APPEARANCE the first variable of all comes first among those that a test leaves
first-left : (f : ℕ → Bool) (x : ℕ) (xs l rest : List ℕ) → firsts [] l ≡ x ∷ xs → f x ≡ true → get_or (only f (firsts [] (l ++ rest))) 0 limit.none ≡ x
unfolding firsts
first-left f x xs [] rest e h = cc
first-left f x xs (y ∷ l) rest e h = let same : y ≡ x = ap (λ (k : List ℕ). get_or k 0 limit.none) e in rw (same, h) refl

carriers-head : (Q : Question) (x : ℕ) (xs : List ℕ) → names (get_or Q 0 []) ≡ x ∷ xs → shared Q x ≡ true → get_or (carriers Q) 0 limit.none ≡ x
unfolding firsts
carriers-head [] x xs e h = cc
carriers-head (b ∷ Q) x xs e h = first-left (shared (b ∷ Q)) x xs (vars b) (standing Q) e h

module _ (m : Model) (wf : WellFormed m) (some-variable : 0 < (stage_at m 0).variables) where
  pub first-stands : elem (first_variable m) (vars (get_or (question_of m) 0 [])) ≡ true
  first-stands = has-variable m wf 0 wf.one (first_variable m) 0 some-variable refl

  first-named : names (get_or (question_of m) 0 []) ≡ first_variable m ∷ map (number_in (stage_at m 0)) (up_from 1 ((stage_at m 0).variables - 1))
  first-named = ap names (stage-here m wf 0 wf.one) ∙ stage-names m wf 0 wf.one ∙ ap (λ (n : ℕ). map (number_in (stage_at m 0)) (up_from 0 n)) (let e : (stage_at m 0).variables ≡ suc ((stage_at m 0).variables - 1) = omega arith in e)

  -- if it is carried it is the first carried one
  carried_first : shared (question_of m) (first_variable m) ≡ true → carried_at m 0 ≡ first_variable m
  carried_first h = ap (λ (k : List ℕ). get_or k 0 limit.none) wf.carried ∙ cell (carriers (question_of m)) ∙ carriers-head (question_of m) (first_variable m) _ first-named h
    where
      cell : (l : List ℕ) → get_or (padded limit.carried l) 0 limit.none ≡ get_or l 0 limit.none
      cell [] = refl
      cell (x ∷ xs) = refl

  -- whether it is
  pub is-first : first_carried m ≡ true → first_variable m ≡ carried_at m 0
  is-first q = eqb-true (first_variable m) (carried_at m 0) q

  pub is-not-first : first_carried m ≡ false → first_variable m ≢ carried_at m 0
  is-not-first q = eqb-false (first_variable m) (carried_at m 0) q

  pub first_holds : first_carried m ≡ true → holder m 0 0 ≡ true
  first_holds q = subst (λ (v : ℕ). elem v (vars (get_or (question_of m) 0 [])) ≡ true) (is-first q) first-stands

  pub not-second : first_variable m ≢ carried_at m 1
  not-second q = absurd (let z = carried-differ m wf 0 1 (omega arith) (rw here own) (here ∙ q) in omega arith)
    where
      own : shared (question_of m) (first_variable m) ≡ true
      own = rw q (carried-own m wf 1 0 (subst (λ (v : ℕ). elem v (vars (get_or (question_of m) 0 [])) ≡ true) q first-stands))

      here : carried_at m 0 ≡ first_variable m
      here = carried_first own

  -- and where it is not, it stands in no later stage
  pub stands-no-more : first_variable m ≢ carried_at m 0 → (k : ℕ) → 1 ≤ k → elem (first_variable m) (vars (get_or (question_of m) k [])) ≡ true → ⊥
  stands-no-more n k l e = ⊎_elim (λ c. n (sym (carried_first c))) (λ c. clash e (stands-alone (question_of m) 0 k (first_variable m) c l first-stands)) (cases_Bool (shared (question_of m) (first_variable m)))
