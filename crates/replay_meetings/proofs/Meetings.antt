-- The meeting of a stage: whether it is allowed, and the state after it.
use mathlib.Core.Path.{◌≡◌, refl, sym, ap, ◌∙◌, subst}
use mathlib.Core.Logic.{◌⊎◌, inl, inr, ⊎_elim, ◌≢◌}
use mathlib.Core.Bool.{true, false, cond}
use mathlib.Core.List.{List, [], ◌∷◌}
use mathlib.Core.Option.{some}
use Prim.Native.Nat.{ℕ, suc, ◌+◌, ◌≤◌, ◌<◌}
use native.Mathlib.Omega.{arith}
use lib.ListN.{length, take, drop, get_or}
use lib.Seq.{drop-cons}
use Rattle.std.proofs.lemmas.Bool.{cases_Bool}
use Rattle.limits.specs.Limits as limit
use Rattle.semantics.specs.Models.{elem, Body, vars, supported, names, carriers, Supported}
use Rattle.semantics.specs.Facts.{Derived, Meets}
use Rattle.semantics.specs.Runs as runs
use Rattle.semantics.specs.Runs.{meet, pick, named, Allowed}
use Rattle.semantics.proofs.Tools.{clash}
use Rattle.semantics.proofs.Bodies.{holds_agree, supported-vars}
use Rattle.model.specs.declared.Model.{Model}
use Rattle.model.specs.declared.Stage.{Stage}
use Rattle.model.specs.Records.{program_of, question_of, stage_body, stage_of, number_in, stage_at, carried_at}
use Rattle.model.specs.Literals.{body_of, GoodBody}
use Rattle.model.specs.Places.{objects}
use Rattle.model.specs.WellFormed.{WellFormed}
use Rattle.model.proofs.Bodies.{own-length, own-good, own-body}
use Rattle.model.proofs.Carried.{carried-cells}
use Rattle.model.proofs.Renaming.{elem-map, elem-of-map, vars-renamed, supported-renamed, meets-renamed, named-renamed}
use Rattle.model.proofs.Accepted.{stages, stage-here, stage-vars, stage_body_lem, stage-different, stage-count}
use Rattle.facts_candidates.specs.declared.Choice.{Choice}
use Rattle.facts_candidates.specs.Choices.{element_of, chosen}
use Rattle.facts_candidates.proofs.Choosing.{some-there}
use Rattle.std.specs.Prelude.{Option, Some, None, unwrap_or}
use Rattle.std.proofs.lemmas.Option.{none-some}
use Rattle.replay_session.specs.declared.Session.{Session}
use Rattle.replay_session.specs.Sessions.{carried_in, carried_by, met}
use Rattle.replay_session.specs.Records.{session_of}
use Rattle.replay_session.proofs.Carrying.{stands-cell, cell-stands, carried-left}
use Rattle.replay_view.specs.declared.View.{View}
use Rattle.replay_view.specs.Views.{slots_of}
use Rattle.replay_steps.specs.Tries.{Ready, Open, Holding, Taken, Barred}
use Rattle.replay_meetings.specs.Carried.{choice_of, Named, carried_on, AllNamed, AllAgree, AllCarried}
use Rattle.replay_meetings.proofs.Objects.{pick-place, objects-chosen}

-- the carried variable of a cell
pub carried-in : (m : Model) → WellFormed m → (v : ℕ) → v < limit.carried → get_or m.carried v 0 ≡ carried_at m v
carried-in m w v l = ap (λ (k : List ℕ). get_or k 0 0) (sym (drop-cons m.carried v 0 there) ∙ drop-cons m.carried v limit.none there)
  where
    there : v < length m.carried
    there = let e = carried-cells m w in omega arith

pub named-cells : (m : Model) → WellFormed m → (g : Stage) (c : Choice) (held : List (Option ℕ)) → AllNamed m.carried g c held → (v : ℕ) → v < limit.carried → Named g (carried_at m v) c (get_or held v None)
named-cells m w g c held f v l = subst (λ (k : ℕ). Named g k c (get_or held v None)) (carried-in m w v l) (f v l)

-- STAGE i of a model: its body can be handed to the evaluator
module _ (m : Model) (wf : WellFormed m) (i : ℕ) (here : i < m.stagecount) where
  abbrev own : Stage
  own = stage_at m i

  pub part-within : own.first + own.count ≤ length m.literals
  part-within = let p = (wf.stage i here).part.within in let q = wf.literalcount in let n = wf.literals in omega arith

  -- its body by itself
  abbrev codes : List ℕ
  codes = take own.count (drop own.first m.literals)

  pub codes-long : length codes ≡ own.count
  codes-long = own-length (drop own.first m.literals) own.count (stage_body_lem m wf i here).within

  pub codes-say : body_of codes (length codes) ≡ stage_body m.literals own
  codes-say = own-body (drop own.first m.literals) own.count (stage_body_lem m wf i here).within

  pub codes-good : GoodBody codes (length codes) own.variables
  codes-good = own-good (drop own.first m.literals) own.count own.variables (stage_body_lem m wf i here)

  pub part-supported : Supported (vars (stage_body m.literals own)) (stage_body m.literals own)
  part-supported x q =
      let f = number_in own in
      let b = stage_body m.literals own in
      let safe = subst (λ (body : Body). Supported (vars body) body) (stage-here m wf i here) (wf.safely i) (f x) (rw (vars-renamed f b) (elem-map f x (vars b) q)) in
      let y = elem-of-map f (f x) (supported b) (rw (supported-renamed f b) at safe) in
      rw (stage-different m wf i here x y.0 q (supported-vars y.0 b y.1) y.2) y.1

-- the slots are those of the view
pub slots-seat : (m : Model) (v : View) (s : Session) (slots w : List ℕ) (p : runs.Place) → Open m v s slots w p → slots_of v s.objects ≡ take s.objects slots
slots-seat m v s slots w p l = ap (λ (t : List ℕ). take s.objects t) l.seats

pub slots-enough : (m : Model) (v : View) (s : Session) (slots w : List ℕ) (p : runs.Place) → Open m v s slots w p → s.objects ≤ length slots
slots-enough m v s slots w p l = let q = l.ready.sees.views.good.slots in let f = l.ready.fits.objects in omega (arith, ap length l.seats)

module _ (m : Model) (s : Session) (v : View) (w : List ℕ) (ready : Ready m s v w) (left : s.met < m.stagecount) (a b c : ℕ) where
  abbrev os : List ℕ
  os = objects (a ∷ b ∷ c ∷ [])

  abbrev g : Stage
  g = stage_at m s.met

  abbrev local : Body
  local = stage_body m.literals g

  abbrev stage : Body
  stage = stage_of m.literals g

  here : get_or (question_of m) s.met [] ≡ stage
  here = stage-here m ready.accepted s.met left

  -- THE MEETING of the next stage, with its body as the record has it
  abbrev Meeting : ℕ → Body → Type 0
  Meeting i body = (s.met < length (question_of m)) × (i ≡ suc s.met) × (length os ≡ length (names body))
      × Meets (program_of m) (take s.objects s.states) (named body os) body
      × ((x d : ℕ) → (session_of m s).carried x ≡ some d → elem x (vars body) ≡ true → named body os x ≡ d)

  to-meeting : (i : ℕ) → Allowed (program_of m) (question_of m) (session_of m s) (meet i os) → Meeting i stage
  to-meeting i h = subst (Meeting i) here h

  from-meeting : (i : ℕ) → Meeting i stage → Allowed (program_of m) (question_of m) (session_of m s) (meet i os)
  from-meeting i h = subst (Meeting i) (sym here) h

  -- another stage, or another number of objects
  pub other-stage : (i : ℕ) → i ≢ suc s.met → Barred m s (meet i os)
  other-stage i n = λ h. n h.1

  pub other-count : (i : ℕ) → length os ≢ g.variables → Barred m s (meet i os)
  other-count i n = λ h. n ((to-meeting i h).2 ∙ stage-count m ready.accepted s.met left)

  module _ (i : ℕ) (next : i ≡ suc s.met) (count : length os ≡ g.variables) where
    -- the object of the stage's variable x
    object : (x : ℕ) → x < g.variables → named stage os (number_in g x) ≡ chosen (choice_of a b c) x
    object x l =
        named-renamed (number_in g) local (stage-different m ready.accepted s.met left) os x ((stage-vars m ready.accepted s.met left x).1 l)
        ∙ ap (λ (ns : List ℕ). pick ns os 0 x) (ready.accepted.stage s.met left).numbered
        ∙ pick-place 0 g.variables os x x (omega arith) l count
        ∙ (objects-chosen a b c x (omega arith)).0

    object-named : (x : ℕ) → x < g.variables → chosen (choice_of a b c) x ≢ 255
    object-named x l = (objects-chosen a b c x (omega arith)).1

    -- THE STAGE HOLDS for the objects named exactly if its body in the literal row does
    abbrev Held : (ℕ → ℕ) → Type 0
    Held = Holding m s local g.variables (choice_of a b c)

    to_held : Meets (program_of m) (take s.objects s.states) (named stage os) stage → Held (λ x. named stage os (number_in g x))
    to_held h = ((meets-renamed (number_in g) (program_of m) (take s.objects s.states) (named stage os) local).0 h, λ x l e q. object x l ∙ ap (λ (o : Option ℕ). unwrap_or o 255) q)

    from-held : (σ : ℕ → ℕ) → Held σ → Meets (program_of m) (take s.objects s.states) (named stage os) stage
    from-held σ h =
        (meets-renamed (number_in g) (program_of m) (take s.objects s.states) (named stage os) local).1
        (holds_agree (take s.objects s.states) (Derived (program_of m) (take s.objects s.states)) σ (λ x. named stage os (number_in g x)) local agree h.0)
      where
        agree : (x : ℕ) → elem x (vars local) ≡ true → σ x ≡ named stage os (number_in g x)
        agree x e = let l = (stage-vars m ready.accepted s.met left x).0 e in h.1 x l (chosen (choice_of a b c) x) (some-there (element_of (choice_of a b c) x) (object-named x l)) ∙ sym (object x l)

    pub not-held : ((σ : ℕ → ℕ) → Held σ → ⊥) → Barred m s (meet i os)
    not-held n = λ h. n (λ x. named stage os (number_in g x)) (to_held (to-meeting i h).3)

    -- THE CARRIED VARIABLES
    module _ (held : List (Option ℕ)) (found : (v : ℕ) → v < limit.carried → Named g (carried_at m v) (choice_of a b c) (get_or held v None)) where
      -- the stage has the variable of a cell, whose object is held; or it has not, and none is
      abbrev Has : ℕ → Type 0
      Has v = ((elem (carried_at m v) (vars stage) ≡ true) × (get_or held v None ≡ Some (named stage os (carried_at m v)))) ⊎ ((elem (carried_at m v) (vars stage) ≡ false) × (get_or held v None ≡ None))

      has : (v : ℕ) → v < limit.carried → Has v
      has v h = ⊎_elim
          (λ (f : (x : ℕ) × (x < g.variables) × (number_in g x ≡ carried_at m v) × (get_or held v None ≡ element_of (choice_of a b c) x)).
          inl (
            subst (λ (y : ℕ). elem y (vars stage) ≡ true) f.2 (rw (vars-renamed (number_in g) local) (elem-map (number_in g) f.0 (vars local) ((stage-vars m ready.accepted s.met left f.0).1 f.1))),
            f.3 ∙ some-there (element_of (choice_of a b c) f.0) (object-named f.0 f.1) ∙ ap Some (sym (object f.0 f.1) ∙ ap (named stage os) f.2),
          ))
          (λ f. inr (
            ⊎_elim
                (λ e. let y = elem-of-map (number_in g) (carried_at m v) (vars local) (rw (vars-renamed (number_in g) local) at e) in
                absurd (f.0 y.0 ((stage-vars m ready.accepted s.met left y.0).0 y.1) (sym y.2)))
                (λ e. e)
                (cases_Bool (elem (carried_at m v) (vars stage))),
            f.1,
          ))
          (found v h)

      -- a carried object that differs
      pub disagrees : (AllAgree s.carried held → ⊥) → Barred m s (meet i os)
      disagrees n = λ h. n (λ v l d e p q. ⊎_elim
          (λ f. ap (λ (o : Option ℕ). unwrap_or o e) (sym q ∙ f.1) ∙ (to-meeting i h).4 (carried_at m v) d (carries v d l p f.0) f.0)
          (λ f. absurd (none-some e (sym f.1 ∙ q)))
          (has v l))
        where
          carries : (v d : ℕ) → v < limit.carried → carried_in s v ≡ Some d → elem (carried_at m v) (vars stage) ≡ true → (session_of m s).carried (carried_at m v) ≡ some d
          carries v d l p e = cell-stands m ready.accepted s ready.cells v s.met d l (subst (λ (body : Body). elem (carried_at m v) (vars body) ≡ true) (sym here) e) p

      -- each carried object is the one that the meeting names
      one-object : AllAgree s.carried held → (x d : ℕ) → (session_of m s).carried x ≡ some d → elem x (vars stage) ≡ true → named stage os x ≡ d
      one-object agree x d e h =
          let r = stands-cell m ready.accepted s ready.cells x d e in
          ⊎_elim
          (λ k. ap (named stage os) (sym r.2) ∙ agree r.0 r.1 d (named stage os (carried_at m r.0)) r.3 k.1)
          (λ k. clash (subst (λ (y : ℕ). elem y (vars stage) ≡ true) (sym r.2) h) k.0)
          (has r.0 r.1)

      carried-after : (after : List (Option ℕ)) → AllCarried s.carried held after → after ≡ carried_by (carriers (question_of m)) (get_or (question_of m) s.met []) os s.carried
      carried-after after (long, each) = carried-left m ready.accepted s ready.cells s.met os after long
          (λ v l. each v l ∙ subst (λ (body : Body). carried_on (carried_in s v) (get_or held v None) ≡ cond (elem (carried_at m v) (vars body)) (Some (named body os (carried_at m v))) (carried_in s v)) (sym here) (⊎_elim
          (λ f. rw (f.0, f.1))
          (λ f. rw (f.0, f.1))
          (has v l)))

      pub meeting-kept : AllAgree s.carried held → (after : List (Option ℕ)) → AllCarried s.carried held after → (σ : ℕ → ℕ) → Held σ → Taken m s (meet i os) (met s after) 0
      meeting-kept agree after e σ h = (
        from-meeting i (
          (let q = stages m ready.accepted in omega arith),
          next,
          count ∙ sym (stage-count m ready.accepted s.met left),
          from-held σ h,
          one-object agree,
        ),
        ap (met s) (carried-after after e),
        refl,
      )
