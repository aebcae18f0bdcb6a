-- The stages of an accepted question, with the numbers that the stages and the question have for the carried variables.
use mathlib.Core.Path.{◌≡◌, refl, sym, ap, ◌∙◌, subst}
use mathlib.Core.Logic.{⊎_elim, ◌↔◌, ◌≢◌}
use mathlib.Core.Bool.{Bool, true, false, cond, ◌||◌, false≢true}
use mathlib.Core.List.{List, [], ◌∷◌, map}
use Prim.Native.Nat.{ℕ, zero, suc, ◌≤◌, ◌<◌}
use native.Mathlib.Omega.{arith}
use borrow.Author.Tests.{ltb-true, ltb-false, lt-ltb, le-ltb, eq-eqb, ne_eqb}
use lib.Dec.{ltb}
use lib.ListN.{length, take, drop, get_or}
use lib.Seq.{get_or-take, length-take-le}
use Rattle.std.proofs.lemmas.Bool.{cases_Bool}
use Rattle.limits.specs.Limits as limit
use Rattle.semantics.specs.Models.{elem, Body, vars, names, supported, Supported}
use Rattle.semantics.specs.Facts.{Database, Holds, In}
use Rattle.semantics.specs.Runs.{named}
use Rattle.semantics.specs.Tables.{seat}
use Rattle.semantics.proofs.Tools.{clash, named-own, seat-ok}
use Rattle.semantics.proofs.Bodies.{holds_agree, supported-vars}
use Rattle.model.specs.declared.Model.{Model}
use Rattle.model.specs.declared.Stage.{Stage}
use Rattle.model.specs.Lookups.{HasSeat}
use Rattle.model.specs.Records.{renamed, Injective, stage_body, number_in, question_of, stage_at, carried_at}
use Rattle.model.specs.WellFormed.{WellFormed}
use Rattle.model.proofs.Accepted.{stage-here, stage-vars, stage_body_lem, stage-different}
use Rattle.model.proofs.Carried.{carried-own, carried-differ}
use Rattle.model.proofs.Renaming.{elem-map, elem-of-map, vars-renamed, supported-renamed, holds-renamed, named-renamed}
use Rattle.facts_bits.specs.Bits.{bit_at}
use Rattle.facts_table.specs.Table.{table_of, Consistent}
use Rattle.facts_candidates.specs.Choices.{Own}
use Rattle.model.specs.Literals.{GoodBody, body_of}
use Rattle.model.proofs.Bodies.{own-body}
use Rattle.facts_holds.specs.Shows.{Evaluable}
use Rattle.facts_holds.proofs.Laws.{part-evaluable}
use Rattle.search_states.proofs.Seats.{elem-get_or, seat-absent, seat-in, seat-out}
use Rattle.std.specs.Prelude.{Option, Some, None, is_some, unwrap_or, IfSome}
use Rattle.search_levels.specs.declared.Walker.{Walker}
use Rattle.search_levels.specs.declared.Meeting.{Meeting}
use Rattle.search_levels.specs.Levels.{holder, chosen, pair_at, Moved, Seated, Pointed, Next, Passed}
use Rattle.search_levels.specs.Passing.{stands, place, besides, Aimed, Led, Met, Ready, walker_of, meeting_of}

-- VARIABLES of a stage and of the question: b has numbers of its own for them, and f are those of the question
module _ (f : ℕ → ℕ) (b : Body) (inj : Injective f (vars b)) where
  -- the objects σ of the stage's variables, for the question's
  globally : (ℕ → ℕ) → ℕ → ℕ
  globally σ = named (renamed f b) (map σ (names b))

  globally-at : (σ : ℕ → ℕ) (x : ℕ) → elem x (vars b) ≡ true → globally σ (f x) ≡ σ x
  unfolding globally
  globally-at σ x e = named-renamed f b inj (map σ (names b)) x e ∙ named-own σ b x e

  holds-globally : (S : Database) (F : ℕ → List ℕ → Type 0) (σ : ℕ → ℕ) → Holds S F σ b → Holds S F (globally σ) (renamed f b)
  holds-globally S F σ h = (holds-renamed f S F (globally σ) b).1 (holds_agree S F σ (λ x. globally σ (f x)) b (λ x e. sym (globally-at σ x e)) h)

  -- a variable that is number y of the stage and x of the question
  module _ (s : Bool) (x y e : ℕ) (same : s ≡ true → f y ≡ x) where
    seated-locally : (σ : ℕ → ℕ) → Seated s σ x e → Seated s (λ z. σ (f z)) y e
    seated-locally σ = go s same
      where
        go : (s : Bool) → (s ≡ true → f y ≡ x) → Seated s σ x e → Seated s (λ z. σ (f z)) y e
        go true h q = ap σ (h refl) ∙ q
        go false h q = q

    seated-globally : (s ≡ true → elem y (vars b) ≡ true) → (σ : ℕ → ℕ) → Seated s σ y e → Seated s (globally σ) x e
    seated-globally stands σ = go s same stands
      where
        go : (s : Bool) → (s ≡ true → f y ≡ x) → (s ≡ true → elem y (vars b) ≡ true) → Seated s σ y e → Seated s (globally σ) x e
        go true h l q = ap (globally σ) (sym (h refl)) ∙ globally-at σ y (l refl) ∙ q
        go false h l q = q

-- a body is safe if it is with other names
local-supported : (f : ℕ → ℕ) (b : Body) → Injective f (vars b) → Supported (vars (renamed f b)) (renamed f b) → Supported (vars b) b
local-supported f b inj h x e =
    let q = rw (supported-renamed f b) at (h (f x) (rw (vars-renamed f b) (elem-map f x (vars b) e))) in
    let y = elem-of-map f (f x) (supported b) q in
    subst (λ (z : ℕ). elem z (supported b) ≡ true) (sym (inj x y.0 e (supported-vars y.0 b y.1) y.2)) y.1

-- WHAT IS ASKED BESIDES of the first variable, by its numbers in the stage and in the question
module _ (m : Model) where
  some-variable : (k : ℕ) (p : Option (List ℕ)) → IfSome p (λ among. 0 < (stage_at m 0).variables) → IfSome (besides p k) (λ among. 0 < (stage_at m k).variables)
  some-variable zero p some = some
  some-variable (suc k) p some = tt

  aimed-globally : (wf : WellFormed m) (k : ℕ) (here : k < m.stagecount) (p : Option (List ℕ)) → IfSome p (λ among. 0 < (stage_at m 0).variables)
      → (σ : ℕ → ℕ) → Aimed (besides p k) σ → Pointed m p k (globally (number_in (stage_at m k)) (stage_body m.literals (stage_at m k)) (stage-different m wf k here) σ)
  aimed-globally wf zero here None some σ h = tt
  aimed-globally wf zero here (Some among) some σ h =
      subst (λ (i : ℕ). bit_at among i ≡ true) (sym (globally-at (number_in (stage_at m 0)) (stage_body m.literals (stage_at m 0)) (stage-different m wf 0 here) σ 0 ((stage-vars m wf 0 here 0).1 some))) h
  aimed-globally wf (suc k) here p some σ h = tt

  aimed-locally : (k : ℕ) (p : Option (List ℕ)) (σ : ℕ → ℕ) → Pointed m p k σ → Aimed (besides p k) (λ z. σ (number_in (stage_at m k) z))
  aimed-locally zero p σ h = h
  aimed-locally (suc k) p σ h = tt

-- A NUMBER that is there as s says
place-own : (s : Bool) (y : ℕ) → is_some (cond s (Some y) None) ≡ true → (s ≡ true) × (unwrap_or (cond s (Some y) None) 0 ≡ y)
place-own true y q = (refl, refl)
place-own false y q = absurd (false≢true q)

place-there : (s : Bool) (y : ℕ) → is_some (cond s (Some y) None) ≡ s
place-there true y = refl
place-there false y = refl

seated-there : (s : Bool) (σ : ℕ → ℕ) (y e : ℕ) → Seated (is_some (cond s (Some y) None)) σ (unwrap_or (cond s (Some y) None) 0) e → Seated s σ y e
seated-there true σ y e h = h
seated-there false σ y e h = h

seated-here : (s : Bool) (σ : ℕ → ℕ) (y e : ℕ) → Seated s σ y e → Seated (is_some (cond s (Some y) None)) σ (unwrap_or (cond s (Some y) None) 0) e
seated-here true σ y e h = h
seated-here false σ y e h = h

-- a variable's place in a row, by the first cell that has its number
seat-first : (x : ℕ) (xs : List ℕ) (i : ℕ) → i < length xs → get_or xs i 0 ≡ x → ((y : ℕ) → y < i → get_or xs y 0 ≢ x) → seat x xs ≡ i
seat-first x [] i l e h = absurd (omega (arith, l))
seat-first x (z ∷ xs) zero l e h = rw (eq-eqb x z (sym e)) refl
seat-first x (z ∷ xs) (suc i) l e h = rw (ne_eqb x z (λ q. h 0 (omega arith) (sym q))) (ap suc (seat-first x xs i (omega (arith, l)) e (λ y k. h (suc y) (omega (arith, k)))))

seat-missing : (x : ℕ) (xs : List ℕ) → ((y : ℕ) → y < length xs → get_or xs y 0 ≢ x) → seat x xs ≡ length xs
seat-missing x xs h = seat-absent x xs (⊎_elim (λ (e : elem x xs ≡ true). let q = seat-ok x xs e in absurd (h (seat x xs) q.0 q.1)) (λ (e : elem x xs ≡ false). e) (cases_Bool (elem x xs)))

-- a variable's place in a stage
pub seat-place : (g : Stage) (x : ℕ) (r : Option ℕ) → g.variables ≤ length g.numbers → HasSeat g x r → let y = seat x (take g.variables g.numbers) in r ≡ cond (ltb y g.variables) (Some y) None
seat-place g x None l h =
    let n = g.variables in
    let long : length (take n g.numbers) ≡ n = length-take-le n g.numbers l in
    let e = seat-missing x (take n g.numbers) (λ y k q. let j : y < n = omega (arith, k, long) in h y j (sym (get_or-take n g.numbers y 0 j) ∙ q)) in
    rw (le-ltb (seat x (take n g.numbers)) n (omega (arith, e, long))) refl
seat-place g x (Some i) l h =
    let n = g.variables in
    let long : length (take n g.numbers) ≡ n = length-take-le n g.numbers l in
    let e : seat x (take n g.numbers) ≡ i = seat-first x (take n g.numbers) i (omega (arith, h.0, long)) (get_or-take n g.numbers i 0 h.0 ∙ h.1) (λ y k q. h.2 y k (sym (get_or-take n g.numbers y 0 (omega (arith, k, h.0))) ∙ q)) in
    rw (e, lt-ltb i n h.0) refl

-- STAGE k of a well-formed model
module _ (m : Model) (wf : WellFormed m) (k : ℕ) (here : k < m.stagecount) where
  abbrev g : Stage
  g = stage_at m k

  abbrev b : Body
  b = stage_body m.literals g

  abbrev f : ℕ → ℕ
  f = number_in g

  -- its body can be evaluated
  abbrev pub codes : List ℕ
  codes = take g.count (drop g.first m.literals)

  stage-good : GoodBody (drop g.first m.literals) g.count g.variables
  stage-good = stage_body_lem m wf k here

  codes-say : body_of codes (length codes) ≡ b
  codes-say = own-body (drop g.first m.literals) g.count stage-good.within

  stage-evaluable : Evaluable codes g.variables
  stage-evaluable = part-evaluable (drop g.first m.literals) g.count g.variables stage-good
      (local-supported f b (stage-different m wf k here) (rw (stage-here m wf k here) at (wf.safely k)))

  pub numbers-long : g.variables ≤ length g.numbers
  numbers-long = let n = wf.numbers k here in let v = (stage_body_lem m wf k here).few in omega arith

  length-numbered : length (take g.variables g.numbers) ≡ g.variables
  length-numbered = length-take-le g.variables g.numbers numbers-long

  -- A VARIABLE x of the question is variable y of the stage, if the stage has it
  module _ (x : ℕ) where
    abbrev y : ℕ
    y = seat x (take g.variables g.numbers)

    number-here : y < g.variables → f y ≡ x
    number-here l =
        let e = seat-in x (take g.variables g.numbers) g.variables length-numbered l in
        sym (get_or-take g.variables g.numbers y 0 l) ∙ (seat-ok x (take g.variables g.numbers) e).1

    holder-here : y < g.variables → elem x (vars (get_or (question_of m) k [])) ≡ true
    holder-here l =
        subst (λ (c : Body). elem x (vars c) ≡ true) (sym (stage-here m wf k here))
        (subst (λ (v : ℕ). elem v (vars (renamed f b)) ≡ true) (number-here l) (rw (vars-renamed f b) (elem-map f y (vars b) ((stage-vars m wf k here y).1 l))))

    holder-none : g.variables ≤ y → elem x (vars (get_or (question_of m) k [])) ≡ false
    holder-none l = ⊎_elim
        (λ e.
        let z = elem-of-map f x (vars b) (rw (vars-renamed f b) at (subst (λ (c : Body). elem x (vars c) ≡ true) (stage-here m wf k here) e)) in
        let h = (stage-vars m wf k here z.0).0 z.1 in
        clash (subst (λ (v : ℕ). elem v (take g.variables g.numbers) ≡ true) (get_or-take g.variables g.numbers z.0 0 h ∙ sym z.2) (elem-get_or (take g.variables g.numbers) z.0 (rw length-numbered h)))
        (seat-out x (take g.variables g.numbers) g.variables length-numbered l))
        (λ e. e)
        (cases_Bool (elem x (vars (get_or (question_of m) k []))))

    -- whether the stage has it
    stands-holder : ltb y g.variables ≡ elem x (vars (get_or (question_of m) k []))
    stands-holder = ⊎_elim
        (λ q. q ∙ sym (holder-here (ltb-true y g.variables q)))
        (λ q. q ∙ sym (holder-none (ltb-false y g.variables q)))
        (cases_Bool (ltb y g.variables))

    stands-number : ltb y g.variables ≡ true → f y ≡ x
    stands-number q = number-here (ltb-true y g.variables q)

    stands-elem : ltb y g.variables ≡ true → elem y (vars b) ≡ true
    stands-elem q = (stage-vars m wf k here y).1 (ltb-true y g.variables q)

  -- which carried variables stood in a stage before the next one
  pub chosen-after : (v : ℕ) → (chosen m v k || stands (walker_of g (carried_at m v) (chosen m v k))) ≡ chosen m v (suc k)
  chosen-after v = ap (λ (s : Bool). chosen m v k || s) (place-there (ltb (y (carried_at m v)) g.variables) (y (carried_at m v)) ∙ stands-holder (carried_at m v))

  -- THE STAGE WITH THE CARRIED VARIABLES, and what it asks besides
  module _ (p : Option (List ℕ)) (some : IfSome p (λ among. 0 < (stage_at m 0).variables)) where
    abbrev t : Meeting
    t = meeting_of g m.carried (chosen m 0 k) (chosen m 1 k) (besides p k)

    -- it can be asked
    pub stage-ready : (w slots : List ℕ) → Consistent w → Own (length slots) slots → length slots ≤ limit.listed → Ready w slots codes t
    stage-ready w slots agree own few = record {
      asked = record { agree = agree; own = own; few = few; body = stage-evaluable };
      some = some-variable m k p some;
      first = λ q. let o = place-own (ltb (y (carried_at m 0)) g.variables) (y (carried_at m 0)) q in rw o.1 (ltb-true _ _ o.0);
      second = λ q. let o = place-own (ltb (y (carried_at m 1)) g.variables) (y (carried_at m 1)) q in rw o.1 (ltb-true _ _ o.0);
      apart = λ p q e.
          let o = place-own (ltb (y (carried_at m 0)) g.variables) (y (carried_at m 0)) p in
          let u = place-own (ltb (y (carried_at m 1)) g.variables) (y (carried_at m 1)) q in
          absurd (let z = carried-differ m wf 0 1 (omega arith) (carried-own m wf 0 k (sym (stands-holder (carried_at m 0)) ∙ o.0)) (sym (stands-number (carried_at m 0) o.0) ∙ ap f (sym o.1 ∙ e ∙ u.1) ∙ stands-number (carried_at m 1) u.0) in omega (arith, z));
    }

    module _ (S w ways : List ℕ) where
      -- WHAT IT LEADS TO is the next level
      next-law : (A : ℕ → ℕ → Bool) (e f : ℕ) → (Led ways t A e f × Met S w codes t e f) ↔ Next m S w ways p k A e f
      next-law A e f = (
        λ q. (
          (q.0.0, q.0.2.0, q.0.1, q.0.2.1, q.0.2.2, moved 0 q.0.0 e q.0.3, moved 1 q.0.2.0 f q.0.2.3),
          global e f q.1,
        ),
        λ q. (
          (q.0.0, q.0.2, (q.0.1, q.0.3, q.0.4, moved_back 1 q.0.1 f q.0.6), moved_back 0 q.0.0 e q.0.5),
          local e f q.1,
        ),
      )
        where
          walker : ℕ → Walker
          walker v = walker_of g (carried_at m v) (chosen m v k)

          holds-it : (v : ℕ) → stands (walker v) ≡ holder m v k
          holds-it v = place-there (ltb (y (carried_at m v)) g.variables) (y (carried_at m v)) ∙ stands-holder (carried_at m v)

          moved : (v u e : ℕ) → Moved ways (stands (walker v)) (chosen m v k) u e → Moved ways (holder m v k) (chosen m v k) u e
          moved v u e = subst (λ (s : Bool). Moved ways s (chosen m v k) u e) (holds-it v)

          moved_back : (v u e : ℕ) → Moved ways (holder m v k) (chosen m v k) u e → Moved ways (stands (walker v)) (chosen m v k) u e
          moved_back v u e = subst (λ (s : Bool). Moved ways s (chosen m v k) u e) (sym (holds-it v))

          outward : (v e : ℕ) (σ : ℕ → ℕ) → Seated (stands (walker v)) σ (place (walker v)) e → Seated (holder m v k) (globally (number_in g) b (stage-different m wf k here) σ) (carried_at m v) e
          outward v e σ q = subst (λ (s : Bool). Seated s (globally (number_in g) b (stage-different m wf k here) σ) (carried_at m v) e) (stands-holder (carried_at m v))
              (seated-globally (number_in g) b (stage-different m wf k here) (ltb (y (carried_at m v)) g.variables) (carried_at m v) (y (carried_at m v)) e (stands-number (carried_at m v)) (stands-elem (carried_at m v)) σ (seated-there (ltb (y (carried_at m v)) g.variables) σ (y (carried_at m v)) e q))

          inward : (v e : ℕ) (σ : ℕ → ℕ) → Seated (holder m v k) σ (carried_at m v) e → Seated (stands (walker v)) (λ z. σ (number_in g z)) (place (walker v)) e
          inward v e σ q =
              seated-here (ltb (y (carried_at m v)) g.variables) (λ z. σ (number_in g z)) (y (carried_at m v)) e (seated-locally (number_in g) b (stage-different m wf k here) (ltb (y (carried_at m v)) g.variables) (carried_at m v) (y (carried_at m v)) e (stands-number (carried_at m v)) σ
              (subst (λ (s : Bool). Seated s σ (carried_at m v) e) (sym (stands-holder (carried_at m v))) q))

          global : (e f : ℕ) → Met S w codes t e f → (σ : ℕ → ℕ) × Holds S (In (table_of w)) σ (get_or (question_of m) k []) × Seated (holder m 0 k) σ (carried_at m 0) e × Seated (holder m 1 k) σ (carried_at m 1) f × Pointed m p k σ
          global e f h = (
            globally (number_in g) b (stage-different m wf k here) h.0,
            subst (λ (c : Body). Holds S (In (table_of w)) (globally (number_in g) b (stage-different m wf k here) h.0) c) (sym (stage-here m wf k here)) (holds-globally (number_in g) b (stage-different m wf k here) S (In (table_of w)) h.0 (subst (λ (c : Body). Holds S (In (table_of w)) h.0 c) codes-say h.1)),
            outward 0 e h.0 h.2,
            outward 1 f h.0 h.3,
            aimed-globally m wf k here p some h.0 h.4,
          )

          local : (e f : ℕ) → ((σ : ℕ → ℕ) × Holds S (In (table_of w)) σ (get_or (question_of m) k []) × Seated (holder m 0 k) σ (carried_at m 0) e × Seated (holder m 1 k) σ (carried_at m 1) f × Pointed m p k σ) → Met S w codes t e f
          local e f h = (
            (λ z. h.0 (number_in g z)),
            subst (λ (c : Body). Holds S (In (table_of w)) (λ z. h.0 (number_in g z)) c) (sym codes-say) ((holds-renamed (number_in g) S (In (table_of w)) h.0 b).0 (subst (λ (c : Body). Holds S (In (table_of w)) h.0 c) (stage-here m wf k here) h.1)),
            inward 0 e h.0 h.2,
            inward 1 f h.0 h.3,
            aimed-locally m k p h.0 h.4,
          )

      pub passed-stage : (old new : List ℕ) → ((e f : ℕ) → e < limit.listed → f < limit.listed → (pair_at new (suc k) e f ≡ true) ↔ (Led ways t (pair_at old k) e f × Met S w codes t e f)) → Passed m S w ways p k (pair_at old k) (pair_at new (suc k))
      passed-stage old new h = record { pairs = λ e f l i. let z = h e f l i in let q = next-law (pair_at old k) e f in ((λ x. q.0 (z.0 x)), λ x. z.1 (q.1 x)) }
