-- The run that builds the states behind a database, meets stage 1 with its object and walks on.
use mathlib.Core.Path.{◌≡◌, refl, sym, ap, ◌∙◌, subst}
use mathlib.Core.Logic.{◌⊎◌, inl, inr, ⊎_elim, ◌≢◌}
use mathlib.Core.Bool.{Bool, true, false}
use mathlib.Core.List.{List, [], ◌∷◌, ◌++◌, reverse}
use Prim.Native.Nat.{ℕ, ◌+◌, ◌-◌, ◌*◌, ◌≤◌, ◌<◌}
use native.Mathlib.Omega.{arith}
use native.Mathlib.Nat.{mul-le-mul}
use lib.ListN.{length, take, drop, length-append, length-set, get_or-append}
use lib.Seq.{get_or-set_other}
use Rattle.limits.specs.Limits as limit
use Rattle.semantics.specs.Models.{Line, rule, new, next, other, Program, line, Question}
use Rattle.semantics.specs.Facts.{Database, state}
use Rattle.semantics.specs.Steps.{execute}
use Rattle.semantics.specs.Runs.{Place, step, meet, Session, nobody, start, after, Plays, played}
use Rattle.semantics.specs.Building.{session, follows}
use Rattle.semantics.specs.Walkers.{Touches}
use Rattle.semantics.proofs.Tools.{no_none}
use Rattle.semantics.proofs.Leads.{leads-plays, plays-length}
use Rattle.semantics.proofs.WalkersPaper.{plays-fewer, plays-names}
use Rattle.semantics.proofs.WalkersSound.{touches-more, touches-append, touches-raise}
use Rattle.model.specs.declared.Model.{Model}
use Rattle.model.specs.Records.{program_of, question_of, stage_at}
use Rattle.model.proofs.Accepted.{stages}
use Rattle.search_states.specs.declared.States.{States}
use Rattle.search_states.specs.States.{row, by, from}
use Rattle.search_states.proofs.Laws.{length-row}
use Rattle.search_levels.specs.Levels.{holder, chosen}
use Rattle.witness_table.specs.Runs.{backwards}
use Rattle.witness_lineage.specs.Lineage.{building}
use Rattle.witness_meetings.specs.declared.Cast.{Cast}
use Rattle.witness_meetings.specs.Meetings.{Known, Written, Numbered, gathering, Seating, first_variable}
use Rattle.witness_meetings.proofs.Laws.{shows-meets}
use Rattle.witness_walk.specs.Walk.{Errand, effort, Goes, Behind}
use Rattle.witness_walk.proofs.Errands.{touches-errand}
use Rattle.witness_walk.proofs.Laws.{written_on, ahead_more}
use Rattle.witness.proofs.Laws.{plays-last, turn-written, turn-decoded, some-stage, building-leads, building-written}
use Rattle.witness_from.specs.From.{ShownFrom, first_carried, cast_from, Approach, approached, Opening, opened, PlaysWith}
use Rattle.witness_from.proofs.First.{first-stands}
use Rattle.witness_from.proofs.Stands.{ground, fit, begins, opening-leads}

-- WHO IS NOT STEPPED KEEPS HIS STATE
module _ (P : Program) (Q : Question) (R : ℕ → Type 0) (o : ℕ) (not-mine : R o → ⊥) where
  kept_line : (d : Database) (q : ℕ) → o ≢ q → o < length d → (L : Line) → (o < length (execute d q L)) × (state (execute d q L) o ≡ state d o)
  kept_line d q n l (rule r xs b) = (l, refl)
  kept_line d q n l (new t b) = (rw length-append (omega (arith, l)), get_or-append d (t ∷ []) 0 o l)
  kept_line d q n l (next x plus minus b) = (rw length-set l, get_or-set_other d q o _ 0 n)
  kept_line d q n l other = (l, refl)

  kept-state : (ps : List Place) (t : Session) → o < length t.db → Touches R ps → state (played P Q t ps).db o ≡ state t.db o
  kept-state [] t l h = refl
  kept-state (step ℓ q ∷ ps) t l h = let k = kept_line t.db q (λ e. not-mine (subst R (sym e) h.0)) l (line P ℓ) in kept-state ps (after P Q t (step ℓ q)) k.0 h.1 ∙ k.1
  kept-state (meet i os ∷ ps) t l h = kept-state ps (after P Q t (meet i os)) l h

-- THE OPENING IS WRITTEN: the meeting, what the second carried variable's object does, what the first's does, and the way of the object
pub opening-written : (m : Model) (w : List ℕ) (s : States) → Known m w s → (cast : Cast) (c : Bool) (p a e f u : ℕ) (σ : ℕ → ℕ) → Seating m w s 0 e f σ → σ (first_variable m) ≡ u → (run run₁ run₂ run₃ run₄ : List ℕ) (at at₁ at₂ at₃ at₄ : ℕ)
    → Written (λ ps. ps ≡ gathering m cast (follows (first_variable m) p) 0 σ ∷ []) 1 run at run₁ at₁
    → Written (Errand m s cast.second (holder m 1 0) false f f) (effort s.count (holder m 1 0) false) run₁ at₁ run₂ at₂
    → Written (Approach m s c cast.first e) (approached m s c) run₂ at₂ run₃ at₃
    → Written (Errand m s p true true a u) (s.count - 1) run₃ at₃ run₄ at₄
    → Written (Opening m s cast c p a e f) (opened m s c) run at run₄ at₄
opening-written m w s known cast c p a e f u σ seated is run run₁ run₂ run₃ run₄ at at₁ at₂ at₃ at₄ met second first led =
    written_on (After c) (Errand m s p true true a u) (Opening m s cast c p a e f) whole (approached m s c + (effort s.count (holder m 1 0) false + 1)) (s.count - 1) run run₃ run₄ at at₃ at₄
    (written_on Then (Approach m s c cast.first e) (After c) (λ ps qs q r. (ps, r.0, q, r.1, ap (λ (ts : List Place). ps ++ ts) r.2)) (effort s.count (holder m 1 0) false + 1) (approached m s c) run run₂ run₃ at at₂ at₃
    (written_on (λ ps. ps ≡ gathering m cast (follows (first_variable m) p) 0 σ ∷ []) (Errand m s cast.second (holder m 1 0) false f f) Then (λ ps qs q r. (ps, q, ap (λ (ts : List Place). ps ++ ts) r)) 1 (effort s.count (holder m 1 0) false) run run₁ run₂ at at₁ at₂ met second) first) led
  where
    Then : List Place → Type 0
    Then ps = (qs : List Place) × Errand m s cast.second (holder m 1 0) false f f qs × (ps ≡ qs ++ (gathering m cast (follows (first_variable m) p) 0 σ ∷ []))

    After : Bool → List Place → Type 0
    After c ps = (ts qs : List Place) × Approach m s c cast.first e ts × Errand m s cast.second (holder m 1 0) false f f qs × (ps ≡ ts ++ (qs ++ (gathering m cast (follows (first_variable m) p) 0 σ ∷ [])))

    whole : (ps qs : List Place) → Errand m s p true true a u ps → After c qs → Opening m s cast c p a e f (ps ++ qs)
    whole ps qs q r = record {
      choice = σ;
      meets = shows-meets m w s known 0 known.model.one σ seated.0;
      seats = seated.1;
      way = ps;
      first = r.0;
      second = r.1;
      led = subst (λ (v : ℕ). Errand m s p true true a v ps) (sym is) q;
      makes = r.2;
      makes-too = r.3;
      parts = ap (λ (ts : List Place). ps ++ ts) r.4;
    }

module _ (m : Model) (w : List ℕ) (s : States) (known : Known m w s) (some-variable : 0 < (stage_at m 0).variables) (n p a : ℕ) (few : n ≤ limit.earlier) (old : p < n) where
  abbrev cast : Cast
  cast = cast_from (first_carried m) n s.count p

  -- there are numbers for all
  pub numbered : Numbered s (cast_from (first_carried m) n s.count p)
  numbered = go (first_carried m)
    where
      go : (c : Bool) → Numbered s (cast_from c n s.count p)
      go true = let k = known.proper.count in record { states = omega arith; first = omega arith; second = omega arith }
      go false = let k = known.proper.count in record { states = omega arith; first = omega arith; second = omega arith }

  -- the cast's objects are p and new ones
  abbrev Mine : ℕ → Type 0
  Mine o = (n ≤ o) ⊎ (o ≡ p)

  mine-first : (c : Bool) (o : ℕ) → o ≡ (cast_from c n s.count p).first → Mine o
  mine-first true o q = inr q
  mine-first false o q = inl (omega arith)

  mine-second : (c : Bool) (o : ℕ) → o ≡ (cast_from c n s.count p).second → Mine o
  mine-second true o q = inl (omega arith)
  mine-second false o q = inl (omega arith)

  -- the steps of the opening are theirs
  touches-opening : (e f : ℕ) (ps : List Place) → Opening m s cast (first_carried m) p a e f ps → Touches Mine ps
  touches-opening e f ps h = subst (Touches Mine) (sym h.parts)
      (touches-append Mine h.way _ (touches-errand m s p Mine (inr refl) true true a (h.choice (first_variable m)) h.way h.led)
      (touches-append Mine h.first _ (approach (first_carried m) h.makes)
      (touches-append Mine h.second _ (touches-errand m s cast.second Mine (mine-second (first_carried m) cast.second refl) (holder m 1 0) false f f h.second h.makes-too) tt)))
    where
      approach : (c : Bool) → Approach m s c (cast_from c n s.count p).first e h.first → Touches Mine h.first
      approach true q = subst (Touches Mine) (sym q) tt
      approach false q = touches-errand m s _ Mine (mine-first false _ refl) (holder m 0 0) false e e h.first q

  -- THE OPENING, and the walk behind it
  opens : (e f : ℕ) (ps qs : List Place) → Opening m s cast (first_carried m) p a e f ps → Goes m s cast 1 1 (chosen m 0 1) e (chosen m 1 1) f qs → PlaysWith m s n p a (λ D. D ++ row s) (ps ++ qs)
  opens e f ps qs h walk = record {
    plays = λ D long is. go D long is;
    touches = touches-append Mine ps qs (touches-opening e f ps h) (touches-more _ Mine (λ o q. ⊎_elim (mine-first (first_carried m) o) (mine-second (first_carried m) o) q) qs walk.touches);
  }
    where
      go : (D : Database) → length D ≡ n → state D p ≡ state (row s) a → Plays (program_of m) (question_of m) (session (D ++ row s) 0 (follows (first_variable m) p)) (ps ++ qs)
      go D long is =
          let there : p < length D = omega (arith, old, long) in
          let h' = subst (λ (k : ℕ). Opening m s (cast_from (first_carried m) k s.count p) (first_carried m) p a e f ps) (sym long) h in
          let walk' = subst (λ (k : ℕ). Goes m s (cast_from (first_carried m) k s.count p) 1 1 (chosen m 0 1) e (chosen m 1 1) f qs) (sym long) walk in
          let t = opening-leads m w s known some-variable D p there (first_carried m) refl a e f ps h' (D ++ row s) (begins m w s known some-variable D p there (first_carried m) refl a is) (length-append D (row s) ∙ ap (λ (k : ℕ). length D + k) (length-row s known.proper)) in
          leads-plays (program_of m) (question_of m) _ _ ps qs t.3 (walk'.plays (ground m w s known some-variable D p there (first_carried m) refl (h'.choice (first_variable m))) (fit m w s known some-variable D p there (first_carried m) refl (h'.choice (first_variable m))) t.0 t.1 t.2)

  -- BEHIND WHAT IS BUILT
  builds : (ps qs : List Place) → ps ≡ building m s n s.count → PlaysWith m s n p a (λ D. D ++ row s) qs → PlaysWith m s n p a (λ D. D) (ps ++ qs)
  builds ps qs q h = record {
    plays = λ D long is. subst (λ (ts : List Place). Plays (program_of m) (question_of m) (session D 0 (follows (first_variable m) p)) (ts ++ qs)) (sym (q ∙ ap (λ (k : ℕ). building m s k s.count) (sym long)))
        (leads-plays (program_of m) (question_of m) _ _ (building m s (length D) s.count) qs (building-leads m w s known D (follows (first_variable m) p)) (h.plays D long is));
    touches = touches-append Mine ps qs (subst (Touches Mine) (sym q) (touches-raise Mine (program_of m) (by s) (from s) n (λ o l. inl l) s.count)) h.touches;
  }

  -- HOW MANY PLACES the opening and the walk are
  module _ (rows run run₁ : List ℕ) (e f at : ℕ) (h : Behind m s cast 1 rows run run₁ 1 e f at) where
    pub opening-few : opened m s (first_carried m) + h.most ≤ (limit.atomic - 1) + limit.carried * limit.walked + m.stagecount
    opening-few =
        let four = known.model.stages in
        let most = known.proper.count in
        omega (
          arith,
          h.few,
          less (first_carried m),
          ahead_more s.count 0 (holder m 0 0) false,
          ahead_more s.count 0 (holder m 1 0) false,
          mul-le-mul four (let k : s.count - 1 ≤ 126 = omega arith in k),
        )
      where
        less : (c : Bool) → approached m s c ≤ effort s.count (holder m 0 0) false
        less true = omega arith
        less false = omega arith

    pub opening-index : at + opened m s (first_carried m) ≤ (limit.atomic - 1) + limit.carried * limit.walked + limit.stages
    opening-index = let four = known.model.stages in omega (arith, opening-few, h.played.index, h.played.few)

    -- THE WHOLE RUN
    pub whole : (run₂ run₃ : List ℕ) (at₂ r : ℕ) → Written (Opening m s cast (first_carried m) p a e f) (opened m s (first_carried m)) run₁ at run₂ at₂ → r ≡ at₂ + length (building m s n s.count) → run₃ ≡ backwards run₂ at₂ (building m s n s.count)
        → Written (PlaysWith m s n p a (λ D. D)) (limit.steps_from + m.stagecount) run 0 run₃ r
    whole run₂ run₃ at₂ r opening index written = record { places = t.places; good = t.good; few = omega (arith, t.few, opening-few); numerable = t.numerable; written = t.written; index = t.index }
      where
        k : Written (PlaysWith m s n p a (λ D. D ++ row s)) (opened m s (first_carried m) + h.most) run 0 run₂ at₂
        k = written_on _ _ (PlaysWith m s n p a (λ D. D ++ row s)) (opens e f) h.most (opened m s (first_carried m)) run run₁ run₂ 0 at at₂ h.played opening

        t : Written (PlaysWith m s n p a (λ D. D)) (limit.built + (opened m s (first_carried m) + h.most)) run 0 run₃ r
        t = written_on _ _ (PlaysWith m s n p a (λ D. D)) builds (opened m s (first_carried m) + h.most) limit.built run run₂ run₃ 0 at₂ r k (building-written m w s known n (let most = known.proper.count in omega (arith, few)) run₂ run₃ at₂ r index written)

  -- IT IS SHOWN
  pub shown : (run run₃ : List ℕ) (r : ℕ) → Written (PlaysWith m s n p a (λ D. D)) (limit.steps_from + m.stagecount) run 0 run₃ r → limit.steps_from + m.stagecount ≤ length run → (run' : List ℕ) → run' ≡ reverse (take r run₃) ++ drop r run₃
      → (D : Database) → length D ≡ n → state D p ≡ state (row s) a → ShownFrom m D p run run' r
  shown run run₃ r h room run' e D long is = record {
    places = h.places;
    plays = plays;
    names = plays-names (program_of m) (question_of m) (first_variable m) p (some-stage m w s known) (first-stands m known.model some-variable) h.places D with-p;
    touches = mine;
    stays = λ o l other. kept-state (program_of m) (question_of m) (λ o. (length D ≤ o) ⊎ (o ≡ p)) o (⊎_elim (λ q. absurd (omega arith)) (λ q. other q)) h.places (start D) l mine;
    steps = omega (arith, h.few, plays-length (program_of m) (question_of m) (start D) h.places plays, stages m known.model);
    index = omega (arith, h.index);
    few = let four = known.model.stages in omega (arith, h.index, h.few);
    written = turn-written _ _ run run₃ r h room run' e;
    decoded = turn-decoded _ _ run run₃ r h room run' e;
    last = subst (λ (k : ℕ). (first : List Place) × (os : List ℕ) × (h.places ≡ first ++ (meet k os ∷ []))) (stages m known.model) (plays-last (program_of m) (question_of m) (start D) h.places plays (some-stage m w s known));
  }
    where
      with-p : Plays (program_of m) (question_of m) (session D 0 (follows (first_variable m) p)) h.places
      with-p = h.good.plays D long is

      plays : Plays (program_of m) (question_of m) (start D) h.places
      plays = plays-fewer (program_of m) (question_of m) h.places D 0 (follows (first_variable m) p) nobody (λ y c q. no_none q) with-p

      mine : Touches (λ o. (length D ≤ o) ⊎ (o ≡ p)) h.places
      mine = subst (λ (k : ℕ). Touches (λ o. (k ≤ o) ⊎ (o ≡ p)) h.places) (sym long) h.good.touches
