-- PARTS OF A RUN between posts, in every database of the ground that stands there.
use mathlib.Core.Path.{◌≡◌, refl, sym, ap, ◌∙◌, subst, fun_ext}
use mathlib.Core.Logic.{⊎_elim}
use mathlib.Core.Bool.{true, false}
use mathlib.Core.List.{List, [], ◌∷◌, ◌++◌, map}
use mathlib.Core.Option.{Option, none, some}
use Prim.Native.Nat.{ℕ, suc, ◌+◌, ◌<◌}
use native.Mathlib.Omega.{arith}
use lib.Dec.{eqb}
use borrow.Author.Tests.{eqb-true}
use lib.ListN.{length, get_or, set, length-append, length-set}
use Rattle.std.proofs.lemmas.Bool.{cases_Bool}
use Rattle.semantics.specs.Models.{names}
use Rattle.semantics.specs.Facts.{Database, state, Meets}
use Rattle.semantics.specs.Runs.{Place, meet}
use Rattle.semantics.specs.Steps.{Steps}
use Rattle.semantics.specs.Building.{session, Leads, places, lineage, with}
use Rattle.semantics.specs.Walkers.{Way, Stand, stood, Walking, but, acting}
use Rattle.semantics.proofs.Leads.{leads-plays, steps-lead}
use Rattle.semantics.proofs.WalkersLegs.{lead-steps, make-steps, stage-met}
use Rattle.model.specs.declared.Model.{Model}
use Rattle.model.specs.Records.{program_of, question_of}
use Rattle.search_states.specs.declared.States.{States}
use Rattle.search_states.specs.States.{row, by, from}
use Rattle.witness_meetings.specs.declared.Cast.{Cast}
use Rattle.witness_meetings.specs.Meetings.{Known}
use Rattle.witness_walk.specs.Walk.{Post, Ground, Fits, PlaysFrom}

-- what was so is so still
pub but_same : (f : ℕ → Option ℕ) (x : ℕ) (v : Option ℕ) → f x ≡ v → but f x v ≡ f
but_same f x v q = fun_ext (λ y. ⊎_elim (λ (z : eqb y x ≡ true). rw z (sym q ∙ ap f (sym (eqb-true y x z)))) (λ (z : eqb y x ≡ false). rw z) (cases_Bool (eqb y x)))

-- the places lead from each database at post p to one at post q
abbrev pub LeadsOn : Model → Ground → Post → List Place → Post → Type 0
LeadsOn m g p ps q = (d : Database) → Walking g.database g.given d p.states p.objects → length d ≡ p.many
    → (e : Database) × Walking g.database g.given e q.states q.objects × (length e ≡ q.many) × Leads (program_of m) (question_of m) (session d p.met p.carried) ps (session e q.met q.carried)

-- what is played from q is played from p, behind them
pub plays-on : (m : Model) (g : Ground) (p q : Post) (ps qs : List Place) → LeadsOn m g p ps q → PlaysFrom m g q qs → PlaysFrom m g p (ps ++ qs)
plays-on m g p q ps qs h k d a n = let r = h d a n in leads-plays (program_of m) (question_of m) (session d p.met p.carried) (session r.0 q.met q.carried) ps qs r.3 (k r.0 r.1 r.2)

module _ (m : Model) (w : List ℕ) (s : States) (known : Known m w s) (cast : Cast) (until : ℕ) (g : Ground) (fits : Fits m s cast until g) where
  module _ (p : Post) (more : p.met < length (question_of m)) (x : ℕ) where
    -- A WALKER IS LED along a way
    pub lead-on : (o u t : ℕ) → p.states x ≡ some u → p.objects x ≡ some o → (ls : List ℕ) → Way (program_of m) (row s) u ls t
        → LeadsOn m g p (places (with o ls)) (record { met = p.met; carried = p.carried; states = but p.states x (some t); objects = p.objects; many = p.many })
    lead-on o u t at is ls way d a n =
        let r = lead-steps (program_of m) known.model.safe (question_of m) (row s) (by s) (from s) known.found g.database (λ o. cast.base + o) fits.copy g.given fits.free d p.states p.objects a x o u t at is ls way in
        (set d o t, r.1, length-set d o t ∙ n, steps-lead (program_of m) (question_of m) d (set d o t) p.met p.carried (with o ls) more r.0)

    -- A WALKER IS MADE, with the next number
    pub make-on : (o i : ℕ) → p.objects x ≡ none → p.many ≡ o → i < length (row s)
        → LeadsOn m g p (places (with o (lineage (program_of m) (by s) (from s) (length (row s)) i)))
        (record { met = p.met; carried = p.carried; states = but p.states x (some (state (row s) i)); objects = but p.objects x (some o); many = suc o })
    make-on o i none_yet next l d a n =
        let r = make-steps (program_of m) known.model.safe (question_of m) (row s) (by s) (from s) known.found g.database (λ o. cast.base + o) fits.copy g.given fits.free d p.states p.objects a x i none_yet l in
        let e = d ++ (state (row s) i ∷ []) in
        let q : length d ≡ o = n ∙ next in (
          e,
          subst (λ (k : ℕ). Walking g.database g.given e (but p.states x (some (state (row s) i))) (but p.objects x (some k))) q r.1,
          length-append d (state (row s) i ∷ []) ∙ omega arith,
          steps-lead (program_of m) (question_of m) d e p.met p.carried (with o (lineage (program_of m) (by s) (from s) (length (row s)) i)) more
              (subst (λ (k : ℕ). Steps (program_of m) d (with k (lineage (program_of m) (by s) (from s) (length (row s)) i)) e) q r.0),
        )

  -- A STAGE IS MET that holds over the states for σ: the walkers are carried from then on
  pub meet-on : (p : Post) → p.met < length (question_of m) → (σ : ℕ → ℕ) → Meets (program_of m) (row s) σ (get_or (question_of m) p.met [])
      → (k : Stand) → p.states ≡ stood (question_of m) (row s) (get_or (question_of m) p.met []) σ k → ((x o : ℕ) → p.carried x ≡ some o → p.objects x ≡ some o) → ((x : ℕ) → p.carried x ≡ none → k x ≡ none)
      → LeadsOn m g p (meet (suc p.met) (map (acting (λ o. cast.base + o) p.objects σ) (names (get_or (question_of m) p.met []))) ∷ [])
      (record { met = suc p.met; carried = p.objects; states = p.states; objects = p.objects; many = p.many })
  meet-on p more σ met k same kept empty d a n = (
    d,
    a,
    n,
    stage-met (program_of m) known.model.safe (question_of m) (row s) (by s) (from s) known.found g.database (λ o. cast.base + o) fits.copy g.given fits.free (get_or (question_of m) p.met []) σ met k d p.objects
        (subst (λ (f : Stand). Walking g.database g.given d f p.objects) same a) p.carried kept empty p.met more refl,
  )
