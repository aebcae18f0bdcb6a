-- Why the meeting of a stage is not allowed.
use mathlib.Core.Path.{◌≡◌, refl, sym, ap, ◌∙◌, subst}
use mathlib.Core.Logic.{◌≢◌, ⊎_elim}
use mathlib.Core.Bool.{true}
use mathlib.Core.List.{List, [], ◌∷◌}
use mathlib.Core.Option.{some}
use Prim.Native.Nat.{ℕ, zero, suc, ◌≤◌, ◌<◌}
use native.Mathlib.Omega.{arith}
use lib.Dec.{eqb}
use lib.ListN.{length, take, get_or}
use Rattle.limits.specs.Limits as limit
use Rattle.semantics.specs.Models.{elem, Body, Program, vars, names}
use Rattle.semantics.specs.Facts.{Derived, Meets}
use Rattle.semantics.specs.Runs.{meet, pick, named, Allowed}
use Rattle.semantics.proofs.Tools.{same?, elem-here, or_right}
use Rattle.semantics.proofs.Bodies.{holds_agree}
use Rattle.model.specs.declared.Model.{Model}
use Rattle.model.specs.declared.Stage.{Stage}
use Rattle.model.specs.Records.{program_of, question_of, stage_body, stage_of, number_in, stage_at, carried_at}
use Rattle.model.specs.Places.{objects}
use Rattle.model.specs.WellFormed.{WellFormed}
use Rattle.model.proofs.Renaming.{elem-map, elem-of-map, vars-renamed, meets-renamed, named-renamed}
use Rattle.model.proofs.Accepted.{stages, stage-here, stage-vars, stage-different, stage-count}
use Rattle.facts_candidates.specs.declared.Choice.{Choice}
use Rattle.facts_candidates.specs.Choices.{element_of, chosen}
use Rattle.facts_candidates.proofs.Choosing.{some-there}
use Rattle.facts_find.specs.Bodies.{Fixed}
use Rattle.replay_session.specs.declared.Session.{Session}
use Rattle.replay_session.specs.Sessions.{carried_in}
use Rattle.replay_session.specs.Records.{session_of}
use Rattle.replay_session.proofs.Carrying.{stands-cell, cell-stands}
use Rattle.replay_session.proofs.Effects.{size}
use Rattle.replay_view.specs.declared.View.{View}
use Rattle.replay_steps.specs.Tries.{Ready, Holding}
use Rattle.std.specs.Prelude.{Option, Some, None, unwrap_or}
use Rattle.replay_meetings.specs.Carried.{choice_of}
use Rattle.replay_meetings.proofs.Objects.{pick-place, objects-chosen}
use Rattle.replay_meetings.proofs.Meetings.{carried-in}
use Rattle.reasons_bodies.specs.Blames.{Blames}
use Rattle.reasons_bodies.proofs.Orders.{blames-renamed}
use Rattle.reasons.specs.declared.Reason.TheVariants.{NoObject, OtherStage, Variables, Carried, Literal}
use Rattle.reasons.specs.Reasons.{Meeting, Swapped, AnySwapped, Explains}

at-elem : (xs : List ℕ) (i : ℕ) → i < length xs → elem (get_or xs i 0) xs ≡ true
at-elem [] i l = absurd (omega arith)
at-elem (x ∷ xs) zero l = elem-here x xs
at-elem (x ∷ xs) (suc i) l = or_right (eqb (get_or xs i 0) x) (elem (get_or xs i 0) xs) (at-elem xs i (omega arith))

-- the carried variables of a model in their cells
module _ (m : Model) (w : WellFormed m) (g : Stage) (carried : List (Option ℕ)) (c : Choice) where
  pub swapped-cell : AnySwapped m.carried g carried c → (u : ℕ) × (u < limit.carried) × Swapped g (carried_at m u) (get_or carried u None) c
  swapped-cell (u, l, h) = (u, l, subst (λ (k : ℕ). Swapped g k (get_or carried u None) c) (carried-in m w u l) h)

  pub none-swapped : (AnySwapped m.carried g carried c → ⊥) → (u : ℕ) × (u < limit.carried) × Swapped g (carried_at m u) (get_or carried u None) c → ⊥
  none-swapped none (u, l, h) = none (u, l, subst (λ (k : ℕ). Swapped g k (get_or carried u None) c) (sym (carried-in m w u l)) h)

module _ (m : Model) (s : Session) (v : View) (w : List ℕ) (ready : Ready m s v w) (left : s.met < m.stagecount) (a b c : ℕ) where
  abbrev P : Program
  P = program_of m

  abbrev db : List ℕ
  db = take s.objects s.states

  abbrev os : List ℕ
  os = objects (a ∷ b ∷ c ∷ [])

  abbrev g : Stage
  g = stage_at m s.met

  abbrev local : Body
  local = stage_body m.literals g

  abbrev stage : Body
  stage = stage_of m.literals g

  here : get_or (question_of m) s.met [] ≡ stage
  here = stage-here m ready.accepted s.met left

  sized : length db ≡ s.objects
  sized = size m ready.accepted s ready.long ready.fits

  stage-left : s.met < length (question_of m)
  stage-left = let q = stages m ready.accepted in omega arith

  -- another stage, or another number of objects
  pub other-stage : (i : ℕ) → i ≢ suc s.met → Explains m s (meet i os) OtherStage
  other-stage i n h = (stage-left, n)

  pub other-count : (i : ℕ) → i ≡ suc s.met → length os ≢ g.variables → Explains m s (meet i os) Variables
  other-count i next n h = (stage-left, (next, subst (λ (body : Body). length os ≢ length (names body)) (sym here) (λ e. n (e ∙ stage-count m ready.accepted s.met left))))

  module _ (i : ℕ) (next : i ≡ suc s.met) (count : length os ≡ g.variables) where
    meets : Meeting P (question_of m) (session_of m s) i os
    meets = (next, subst (λ (body : Body). length os ≡ length (names body)) (sym here) (count ∙ sym (stage-count m ready.accepted s.met left)))

    -- an object that is not there
    pub no-object : (x : ℕ) → x < g.variables → ((e : ℕ) → element_of (choice_of a b c) x ≡ Some e → s.objects ≤ e) → Explains m s (meet i os) NoObject
    no-object x l far h =
        let o = (objects-chosen a b c x (omega arith)).0 in
        let p = far (chosen (choice_of a b c) x) (some-there (element_of (choice_of a b c) x) (objects-chosen a b c x (omega arith)).1) in
        (stage-left, (meets, (get_or os x 0, at-elem os x (omega arith), let z = sized in omega arith)))

    -- the object of the stage's variable x
    object : (x : ℕ) → x < g.variables → named stage os (number_in g x) ≡ chosen (choice_of a b c) x
    object x l =
        named-renamed (number_in g) local (stage-different m ready.accepted s.met left) os x ((stage-vars m ready.accepted s.met left x).1 l)
        ∙ ap (λ (ns : List ℕ). pick ns os 0 x) (ready.accepted.stage s.met left).numbered
        ∙ pick-place 0 g.variables os x x (omega arith) l count
        ∙ (objects-chosen a b c x (omega arith)).0

    in-stage : (x : ℕ) → x < g.variables → elem (number_in g x) (vars stage) ≡ true
    in-stage x l = rw (vars-renamed (number_in g) local) (elem-map (number_in g) x (vars local) ((stage-vars m ready.accepted s.met left x).1 l))

    -- A CARRIED VARIABLE with another object
    abbrev Other : Type 0
    Other = (u : ℕ) × (u < limit.carried) × Swapped g (carried_at m u) (carried_in s u) (choice_of a b c)

    pub swapped : Other → Explains m s (meet i os) Carried
    swapped (u, h, (d, held, (x, l, e, n))) _ = (
      stage-left,
      (
        meets,
        subst (λ (body : Body). (y d : ℕ) × ((session_of m s).carried y ≡ some d) × (elem y (vars body) ≡ true) × (named body os y ≢ d)) (sym here) (
          carried_at m u,
          d,
          cell-stands m ready.accepted s ready.cells u s.met d h (subst (λ (body : Body). elem (carried_at m u) (vars body) ≡ true) (sym here) stands) held,
          stands,
          λ q. n (some-there (element_of (choice_of a b c) x) (objects-chosen a b c x (omega arith)).1 ∙ ap (λ (y : ℕ). Some y) (sym (object x l) ∙ ap (named stage os) e ∙ q)),
        ),
      ),
    )
      where
        stands : elem (carried_at m u) (vars stage) ≡ true
        stands = subst (λ (y : ℕ). elem y (vars stage) ≡ true) e (in-stage x l)

    -- THE BODY with the objects named
    abbrev Held : (ℕ → ℕ) → Type 0
    Held = Holding m s local g.variables (choice_of a b c)

    fixed_named : (σ : ℕ → ℕ) → Fixed g.variables (choice_of a b c) σ → (x : ℕ) → elem x (vars local) ≡ true → σ x ≡ named stage os (number_in g x)
    fixed_named σ h x e = let l = (stage-vars m ready.accepted s.met left x).0 e in h x l (chosen (choice_of a b c) x) (some-there (element_of (choice_of a b c) x) (objects-chosen a b c x (omega arith)).1) ∙ sym (object x l)

    -- each carried object is the one that the meeting names
    one-object : (Other → ⊥) → (x d : ℕ) → (session_of m s).carried x ≡ some d → elem x (vars stage) ≡ true → named stage os x ≡ d
    one-object none x d e h =
        let r = stands-cell m ready.accepted s ready.cells x d e in
        let y = elem-of-map (number_in g) x (vars local) (subst (λ (l : List ℕ). elem x l ≡ true) (vars-renamed (number_in g) local) h) in
        let l = (stage-vars m ready.accepted s.met left y.0).0 y.1 in
        ap (named stage os) y.2 ∙ object y.0 l ∙ ⊎_elim
        (λ (z : chosen (choice_of a b c) y.0 ≡ d). z)
        (λ (z : chosen (choice_of a b c) y.0 ≢ d). absurd (none (r.0, r.1, (d, r.3, (y.0, l, sym y.2 ∙ sym r.2, λ w. z (ap (λ (o : Option ℕ). unwrap_or o 255) w))))))
        (same? (chosen (choice_of a b c) y.0) d)

    allowed : (Other → ⊥) → (σ : ℕ → ℕ) → Held σ → Allowed P (question_of m) (session_of m s) (meet i os)
    allowed none σ h =
        subst (λ (body : Body). (s.met < length (question_of m)) × (i ≡ suc s.met) × (length os ≡ length (names body)) × Meets P db (named body os) body × ((x d : ℕ) → (session_of m s).carried x ≡ some d → elem x (vars body) ≡ true → named body os x ≡ d)) (sym here) (
          stage-left,
          next,
          count ∙ sym (stage-count m ready.accepted s.met left),
          (meets-renamed (number_in g) P db (named stage os) local).1 (holds_agree db (Derived P db) σ (λ x. named stage os (number_in g x)) local (fixed_named σ h.1) h.0),
          one-object none,
        )

    pub stage-literal : (Other → ⊥) → (k : ℕ) → (((σ : ℕ → ℕ) → Held σ → ⊥) → Blames P db local (Fixed g.variables (choice_of a b c)) k) → Explains m s (meet i os) (Literal k)
    stage-literal none k blames h = (
      stage-left,
      (
        meets,
        subst (λ (body : Body). Blames P db body (λ (σ : ℕ → ℕ). (x : ℕ) → elem x (vars body) ≡ true → σ x ≡ named body os x) k) (sym here)
            (blames-renamed P db (number_in g) local (Fixed g.variables (choice_of a b c)) (λ (σ : ℕ → ℕ). (x : ℕ) → elem x (vars stage) ≡ true → σ x ≡ named stage os x) k (named stage os)
            (λ x e. refl)
            fixed_named
            (λ σ fit x l e q. fit (number_in g x) (in-stage x l) ∙ object x l ∙ ap (λ (o : Option ℕ). unwrap_or o 255) q)
            (blames (λ σ q. h (allowed none σ q)))),
      ),
    )
