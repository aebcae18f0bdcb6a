-- The carried variables of a well-formed model.
use mathlib.Core.Path.{◌≡◌, refl, sym, ap, ◌∙◌, subst}
use mathlib.Core.Logic.{◌⊎◌, inl, inr, ⊎_elim, ◌≢◌}
use mathlib.Core.Bool.{true, false≢true}
use mathlib.Core.List.{List, [], ◌∷◌, map}
use Prim.Native.Nat.{ℕ, zero, suc, ◌≤◌, ◌<◌}
use native.Mathlib.Omega.{arith}
use native.Mathlib.Decide.{dec_lt}
use lib.Dec.{eqb}
use borrow.Author.Tests.{eqb-true}
use lib.ListN.{length, get_or, get_or-eq_default}
use Rattle.std.proofs.lemmas.Bool.{or_cases}
use Rattle.limits.specs.Limits as limit
use Rattle.semantics.specs.Models.{elem, Body, vars, shared, names, carriers, Distinct}
use Rattle.semantics.specs.Runs.{nobody}
use Rattle.semantics.specs.Walkers.{chosen}
use Rattle.semantics.proofs.Tools.{clash, or_right, elem-here, names-elem}
use Rattle.semantics.proofs.Carriers.{carriers-elem, carriers-shared, carriers-distinct, shared-somewhere, chosen-stands, chosen-first}
use Rattle.model.specs.declared.Model.{Model}
use Rattle.model.specs.Records.{up_from, number_in, question_of, stage_at, padded, carried_at}
use Rattle.model.specs.WellFormed.{WellFormed}
use Rattle.model.proofs.Numbering.{elem-up_from}
use Rattle.model.proofs.Accepted.{stages, stage-here, stage-names}

padded-length : (n : ℕ) (xs : List ℕ) → length (padded n xs) ≡ n
padded-length zero xs = refl
padded-length (suc n) [] = ap suc (padded-length n [])
padded-length (suc n) (x ∷ xs) = ap suc (padded-length n xs)

-- what stands in a cell
padded-at : (n : ℕ) (xs : List ℕ) (v : ℕ) → (get_or (padded n xs) v limit.none ≡ limit.none) ⊎ (elem (get_or (padded n xs) v limit.none) xs ≡ true)
padded-at zero xs v = inl refl
padded-at (suc n) [] zero = inl refl
padded-at (suc n) [] (suc v) = padded-at n [] v
padded-at (suc n) (x ∷ xs) zero = inr (elem-here x xs)
padded-at (suc n) (x ∷ xs) (suc v) = ⊎_elim (λ q. inl q) (λ q. inr (or_right (eqb (get_or (padded n xs) v limit.none) x) (elem (get_or (padded n xs) v limit.none) xs) q)) (padded-at n xs v)

-- an element of a list that has room stands in a cell
padded-elem : (n : ℕ) (xs : List ℕ) (x : ℕ) → length xs ≤ n → elem x xs ≡ true → (v : ℕ) × (v < n) × (get_or (padded n xs) v limit.none ≡ x)
padded-elem n [] x l e = absurd (false≢true e)
padded-elem zero (y ∷ ys) x l e = absurd (omega arith)
padded-elem (suc n) (y ∷ ys) x l e = ⊎_elim (λ q. (0, omega arith, sym (eqb-true x y q))) (λ q. let r = padded-elem n ys x (omega arith) q in (suc r.0, omega (arith, r.1), r.2)) (or_cases (eqb x y) (elem x ys) e)

-- in two cells there are different ones, or none
padded-differ : (n : ℕ) (xs : List ℕ) → Distinct xs → ((x : ℕ) → elem x xs ≡ true → x ≢ limit.none) → (v w : ℕ) → v < n → get_or (padded n xs) v limit.none ≡ get_or (padded n xs) w limit.none → (get_or (padded n xs) v limit.none ≡ limit.none) ⊎ (v ≡ w)
padded-differ zero xs d f v w l e = absurd (omega arith)
padded-differ (suc n) [] d f zero w l e = inl refl
padded-differ (suc n) [] d f (suc v) w l e = ⊎_elim (λ q. inl q) (λ q. absurd (false≢true q)) (padded-at n [] v)
padded-differ (suc n) (x ∷ xs) d f zero zero l e = inr refl
padded-differ (suc n) (x ∷ xs) d f zero (suc w) l e = ⊎_elim (λ q. absurd (f x (elem-here x xs) (e ∙ q))) (λ q. clash (subst (λ (z : ℕ). elem z xs ≡ true) (sym e) q) d.0) (padded-at n xs w)
padded-differ (suc n) (x ∷ xs) d f (suc v) zero l e = ⊎_elim (λ q. inl q) (λ q. clash (subst (λ (z : ℕ). elem z xs ≡ true) e q) d.0) (padded-at n xs v)
padded-differ (suc n) (x ∷ xs) d f (suc v) (suc w) l e = ⊎_elim (λ q. inl q) (λ q. inr (ap suc q)) (padded-differ n xs d.1 (λ y t. f y (or_right (eqb y x) (elem y xs) t)) v w (omega arith) e)

module _ (m : Model) (wf : WellFormed m) where
  pub carried-cells : length m.carried ≡ limit.carried
  carried-cells = ap length wf.carried ∙ padded-length limit.carried (carriers (question_of m))

  -- a stage's variables have small numbers
  pub stands-below : (i x : ℕ) → elem x (vars (get_or (question_of m) i [])) ≡ true → x < limit.asked
  stands-below i x e = go (dec_lt i m.stagecount)
    where
      mapped : (f : ℕ → ℕ) (ys : List ℕ) → elem x (map f ys) ≡ true → (y : ℕ) × (elem y ys ≡ true) × (x ≡ f y)
      mapped f [] t = absurd (false≢true t)
      mapped f (y ∷ ys) t = ⊎_elim (λ q. (y, elem-here y ys, eqb-true x (f y) q)) (λ q. let r = mapped f ys q in (r.0, or_right (eqb r.0 y) (elem r.0 ys) r.1, r.2)) (or_cases (eqb x (f y)) (elem x (map f ys)) t)

      named : (h : i < m.stagecount) → elem x (map (number_in (stage_at m i)) (up_from 0 (stage_at m i).variables)) ≡ true
      named h = subst (λ (l : List ℕ). elem x l ≡ true) (ap names (stage-here m wf i h) ∙ stage-names m wf i h) (names-elem x (get_or (question_of m) i []) e)

      go : Dec (i < m.stagecount) → x < limit.asked
      go (yes h) = let r = mapped (number_in (stage_at m i)) (up_from 0 (stage_at m i).variables) (named h) in rw r.2 ((wf.stage i h).small r.0 (omega (arith, (elem-up_from r.0 0 (stage_at m i).variables r.1).1)))
      go (no h) = absurd (false≢true (subst (λ (b : Body). elem x (vars b) ≡ true) (get_or-eq_default (question_of m) [] (rw (stages m wf) (omega arith))) e))

  -- the number 255 stands in no stage
  none-stands : (i : ℕ) → elem limit.none (vars (get_or (question_of m) i [])) ≡ true → ⊥
  none-stands i e = absurd (let l = stands-below i limit.none e in omega arith)

  -- a cell whose variable stands in a stage has a carried one
  pub carried-own : (v i : ℕ) → elem (carried_at m v) (vars (get_or (question_of m) i [])) ≡ true → shared (question_of m) (carried_at m v) ≡ true
  carried-own v i e = ⊎_elim
      (λ q. absurd (none-stands i (subst (λ (z : ℕ). elem z (vars (get_or (question_of m) i [])) ≡ true) (cell ∙ q) e)))
      (λ q. rw cell (carriers-shared (question_of m) (get_or (padded limit.carried (carriers (question_of m))) v limit.none) q)) (padded-at limit.carried (carriers (question_of m)) v)
    where
      cell : carried_at m v ≡ get_or (padded limit.carried (carriers (question_of m))) v limit.none
      cell = ap (λ (l : List ℕ). get_or l v limit.none) wf.carried

  -- each carried variable has a cell
  pub carried-cell : (x : ℕ) → shared (question_of m) x ≡ true → (v : ℕ) × (v < limit.carried) × (carried_at m v ≡ x)
  carried-cell x c = let r = padded-elem limit.carried (carriers (question_of m)) x wf.carries (carriers-elem (question_of m) x c) in (r.0, r.1, ap (λ (l : List ℕ). get_or l r.0 limit.none) wf.carried ∙ r.2)

  pub carried-only : (x : ℕ) → shared (question_of m) x ≡ true → (x ≡ carried_at m 0) ⊎ (x ≡ carried_at m 1)
  carried-only x c = let r = carried-cell x c in go r.0 r.1 r.2
    where
      go : (v : ℕ) → v < limit.carried → carried_at m v ≡ x → (x ≡ carried_at m 0) ⊎ (x ≡ carried_at m 1)
      go zero l q = inl (sym q)
      go (suc zero) l q = inr (sym q)
      go (suc (suc v)) l q = absurd (omega arith)

  -- and no other
  pub carried-differ : (v w : ℕ) → v < limit.carried → shared (question_of m) (carried_at m v) ≡ true → carried_at m v ≡ carried_at m w → v ≡ w
  carried-differ v w l c e = ⊎_elim (λ q. absurd (let k = stands-below shared_at.0 (carried_at m v) shared_at.1 in omega (arith, k, cell ∙ q))) (λ q. q)
      (padded-differ limit.carried (carriers (question_of m)) (carriers-distinct (question_of m)) small v w l (sym cell ∙ e ∙ ap (λ (l : List ℕ). get_or l w limit.none) wf.carried))
    where
      cell : carried_at m v ≡ get_or (padded limit.carried (carriers (question_of m))) v limit.none
      cell = ap (λ (l : List ℕ). get_or l v limit.none) wf.carried

      shared_at : (i : ℕ) × (elem (carried_at m v) (vars (get_or (question_of m) i [])) ≡ true)
      shared_at = shared-somewhere (question_of m) (carried_at m v) c

      small : (x : ℕ) → elem x (carriers (question_of m)) ≡ true → x ≢ limit.none
      small x t q = let r = shared-somewhere (question_of m) x (carriers-shared (question_of m) x t) in absurd (let k = stands-below r.0 x r.1 in omega arith)

  -- IN ORDER: where the second is followed, the first is
  pub carried-order : (i : ℕ) → chosen (question_of m) nobody i (carried_at m 1) ≡ true → chosen (question_of m) nobody i (carried_at m 0) ≡ true
  carried-order i h = go (carriers (question_of m)) refl
    where
      second : shared (question_of m) (carried_at m 1) ≡ true
      second = (chosen-stands (question_of m) i (carried_at m 1) h).0

      cell : (l : List ℕ) (v : ℕ) → carriers (question_of m) ≡ l → carried_at m v ≡ get_or (padded limit.carried l) v limit.none
      cell l v q = ap (λ (k : List ℕ). get_or k v limit.none) wf.carried ∙ ap (λ (k : List ℕ). get_or (padded limit.carried k) v limit.none) q

      absent : carried_at m 1 ≡ limit.none → ⊥
      absent q = let r = shared-somewhere (question_of m) (carried_at m 1) second in none-stands r.0 (subst (λ (z : ℕ). elem z (vars (get_or (question_of m) r.0 [])) ≡ true) q r.1)

      go : (l : List ℕ) → carriers (question_of m) ≡ l → chosen (question_of m) nobody i (carried_at m 0) ≡ true
      go [] q = absurd (absent (cell [] 1 q))
      go (u ∷ []) q = absurd (absent (cell (u ∷ []) 1 q))
      go (u ∷ v ∷ more) q = subst (λ (z : ℕ). chosen (question_of m) nobody i z ≡ true) (sym (cell (u ∷ v ∷ more) 0 q))
          (chosen-first (question_of m) u v more q i (subst (λ (z : ℕ). chosen (question_of m) nobody i z ≡ true) (cell (u ∷ v ∷ more) 1 q) h))
