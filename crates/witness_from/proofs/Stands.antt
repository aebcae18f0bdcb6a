-- STAGE 1 IS MET with an object of the database for its first variable, on the ground behind the database.
use mathlib.Core.Path.{◌≡◌, refl, sym, ap, ◌∙◌, subst, fun_ext}
use mathlib.Core.Logic.{⊎_elim, ◌≢◌}
use mathlib.Core.Bool.{Bool, true, false, cond}
use mathlib.Core.List.{List, [], ◌∷◌, ◌++◌, map}
use mathlib.Core.Option.{Option, none, some}
use Prim.Native.Nat.{ℕ, suc, ◌+◌, ◌-◌, ◌≤◌, ◌<◌}
use native.Mathlib.Omega.{arith}
use lib.Dec.{eqb}
use borrow.Author.Tests.{eqb-true, eq-eqb, ne_eqb}
use lib.ListN.{length, get_or, length-append, get_or-append}
use Rattle.std.proofs.lemmas.Bool.{cases_Bool}
use Rattle.semantics.specs.Models.{elem, vars, names, shared}
use Rattle.semantics.specs.Facts.{Database, state, Meets}
use Rattle.semantics.specs.Runs.{Place, meet}
use Rattle.semantics.specs.Building.{places, with, follows}
use Rattle.semantics.specs.Walkers.{follow, stood, Walking, but, acting, who}
use Rattle.semantics.proofs.Tools.{same?, clash, no_none, firsts-among}
use Rattle.semantics.proofs.Leads.{leads-append}
use Rattle.semantics.proofs.WalkersComplete.{some_same}
use Rattle.semantics.proofs.WalkersBuild.{copy-behind}
use Rattle.model.specs.declared.Model.{Model}
use Rattle.model.specs.Records.{program_of, question_of, stage_at, carried_at}
use Rattle.model.proofs.Accepted.{stages}
use Rattle.model.proofs.Carried.{carried-own, carried-only}
use Rattle.search_states.specs.declared.States.{States}
use Rattle.search_states.specs.States.{row, by, from, Proper}
use Rattle.search_states.proofs.Laws.{length-row}
use Rattle.search_levels.specs.Levels.{holder, chosen}
use Rattle.witness_meetings.specs.declared.Cast.{Cast}
use Rattle.witness_meetings.specs.Meetings.{Known, pair, Seats, gathering, first_variable}
use Rattle.witness_walk.specs.Walk.{Ready, Errand, Post, Ground, Fits, there, walkers, stance, post}
use Rattle.witness_walk.proofs.Legs.{LeadsOn, lead-on, meet-on}
use Rattle.witness_walk.proofs.Pairs.{chosen-later, first-there, variables-apart, pair-each}
use Rattle.witness_walk.proofs.Laws.{map-among, post-same, errand-first, errand-second}
use Rattle.witness_from.specs.From.{first_carried, cast_from, Approach, Opening}
use Rattle.witness_from.proofs.First.{first-stands, is-first, is-not-first, first_holds, not-second, stands-no-more}

-- one object for one variable
follows-own : (x v : ℕ) → follows x v x ≡ some v
follows-own x v = rw (eq-eqb x x refl) refl

follows-other : (x v y : ℕ) → y ≢ x → follows x v y ≡ none
follows-other x v y n = rw (ne_eqb y x n) refl

follows-only : (x v y o : ℕ) → follows x v y ≡ some o → (y ≡ x) × (o ≡ v)
follows-only x v y o = ⊎_elim (λ (z : eqb y x ≡ true). rw z (λ q. (eqb-true y x z, sym (some_same v o q)))) (λ (z : eqb y x ≡ false). rw z (λ q. no_none q)) (cases_Bool (eqb y x))

follows-none : (x v w y : ℕ) → follows x v y ≡ none → follows x w y ≡ none
follows-none x v w y = ⊎_elim (λ (z : eqb y x ≡ true). rw z (λ q. no_none (sym q))) (λ (z : eqb y x ≡ false). rw z (λ q. refl)) (cases_Bool (eqb y x))

follows-but : (x v w : ℕ) → but (follows x v) x (some w) ≡ follows x w
follows-but x v w = fun_ext (λ y. ⊎_elim (λ (z : eqb y x ≡ true). rw z refl) (λ (z : eqb y x ≡ false). rw z refl) (cases_Bool (eqb y x)))

-- who stands in stage 1 has the slot of a state
pub ready_at : (m : Model) (s : States) → Proper s → (σ : ℕ → ℕ) → ((v : ℕ) → elem v (vars (get_or (question_of m) 0 [])) ≡ true → σ v < length (row s)) → (v e : ℕ) → (holder m v 0 ≡ true → σ (carried_at m v) ≡ e) → Ready m s (holder m v 0) false e e
ready_at m s proper σ below v e seat = go (holder m v 0) refl
  where
    go : (d : Bool) → holder m v 0 ≡ d → Ready m s d false e e
    go false q = tt
    go true q = omega (arith, seat q, below (carried_at m v) q, length-row s proper)

-- parts of a run one after the other
leads-then : (m : Model) (g : Ground) (p q r : Post) (ps qs : List Place) → LeadsOn m g p ps q → LeadsOn m g q qs r → LeadsOn m g p (ps ++ qs) r
leads-then m g p q r ps qs h k d a n = let t = h d a n in let u = k t.0 t.1 t.2 in (u.0, u.1, u.2, leads-append (program_of m) (question_of m) _ _ _ ps qs t.3 u.3)

module _ (m : Model) (w : List ℕ) (s : States) (known : Known m w s) (some-variable : 0 < (stage_at m 0).variables) (D : Database) (p : ℕ) (old : p < length D) (c : Bool) (carried : first_carried m ≡ c) where
  abbrev x : ℕ
  x = first_variable m

  abbrev cast : Cast
  cast = cast_from c (length D) s.count p

  based : (cast_from c (length D) s.count p).base ≡ length D
  based = go c
    where
      go : (c : Bool) → (cast_from c (length D) s.count p).base ≡ length D
      go true = refl
      go false = refl

  -- THE GROUND: the states stand behind D, and p walks from the start; it is in slot u when stage 1 is met
  abbrev pub ground : ℕ → Ground
  ground u = record { database = D ++ row s; given = follows x p; others = follows x p; stand = follows x (state (row s) u) }

  pub fit : (u : ℕ) → Fits m s cast 1 (ground u)
  fit u = record {
    copy = subst (λ (b : ℕ). (i : ℕ) → i < length (row s) → (b + i < length (D ++ row s)) × (state (row s) i ≡ state (D ++ row s) (b + i))) (sym based) (copy-behind (program_of m) known.model.safe (row s) (by s) (from s) known.found D);
    free = λ y i l q. absurd (let z = (follows-only x p y _ q).1 in omega (arith, z, old, based));
    order = λ k l z. go c carried k l z;
    alike = follows-none x p (state (row s) u);
    aside = λ y k l i n o. follows-other x p y (λ q. stands-no-more m known.model some-variable (λ z. n (q ∙ z)) k l (subst (λ (v : ℕ). elem v (vars (get_or (question_of m) k [])) ≡ true) q i));
  }
    where
      go : (c : Bool) → first_carried m ≡ c → (k : ℕ) → 1 ≤ k → chosen m 0 k ≡ false → (cast_from c (length D) s.count p).second ≡ suc (cast_from c (length D) s.count p).first
      go true q k l z = clash (subst (λ (n : ℕ). chosen m 0 n ≡ true) (let e : k - 1 + 1 ≡ k = omega arith in e) (chosen-later m 0 1 (k - 1) (first_holds m known.model some-variable q))) z
      go false q k l z = omega arith

  -- D with the states behind it, p in the state of slot a
  pub begins : (a : ℕ) → state D p ≡ state (row s) a → Walking (D ++ row s) (follows x p) (D ++ row s) (follows x (state (row s) a)) (follows x p)
  begins a is = record {
    grown = omega arith;
    each = λ y. ⊎_elim (λ (z : eqb y x ≡ true). rw z (rw length-append (omega (arith, old)), get_or-append D (row s) 0 p old ∙ is)) (λ (z : eqb y x ≡ false). rw z tt) (cases_Bool (eqb y x));
    apart = λ y z o n q r. n ((follows-only x p y o q).0 ∙ sym (follows-only x p z o r).0);
    stays = λ o l n. refl;
    old = λ y o q l. q;
  }

  abbrev begin : ℕ → Post
  begin a = record { met = 0; carried = follows x p; states = follows x (state (row s) a); objects = follows x p; many = length D + s.count }

  more : 0 < length (question_of m)
  more = rw (stages m known.model) known.model.one

  -- p is all there is of the two
  alone : (v v' : ℕ) → (c ≡ true → v' ≡ v) → pair m (follows x v) (there c v') none ≡ follows x v
  alone v v' same = fun_ext (λ y. ⊎_elim
      (λ q. rw (eq-eqb y (carried_at m 1) q, ne_eqb y x (λ z. not-second m known.model some-variable (sym z ∙ q))) refl)
      (λ o. rw (ne_eqb y (carried_at m 1) o) (⊎_elim (λ q. rw (eq-eqb y (carried_at m 0) q) (go c carried same y q)) (λ n. rw (ne_eqb y (carried_at m 0) n) refl) (same? y (carried_at m 0)))) (same? y (carried_at m 1)))
    where
      go : (c : Bool) → first_carried m ≡ c → (c ≡ true → v' ≡ v) → (y : ℕ) → y ≡ carried_at m 0 → there c v' ≡ follows x v y
      go true q same y z = rw (eq-eqb y x (z ∙ sym (is-first m known.model some-variable q)), same refl) refl
      go false q same y z = rw (ne_eqb y x (λ r. is-not-first m known.model some-variable q (sym r ∙ z))) refl

  -- THE OPENING of stage 1, which holds over the states for σ
  module _ (a e f : ℕ) (σ : ℕ → ℕ) (meets : Meets (program_of m) (row s) σ (get_or (question_of m) 0 [])) (seats : Seats m 0 σ e f) where
    abbrev u : ℕ
    u = σ x

    abbrev stand : Bool → Bool → Post
    stand c d = stance m s cast (ground u) 0 (follows x p) c e d f

    first_slot : c ≡ true → state (row s) e ≡ state (row s) u
    first_slot q = ap (state (row s)) (sym (seats.0 (first_holds m known.model some-variable (carried ∙ q))) ∙ ap σ (sym (is-first m known.model some-variable (carried ∙ q))))

    first-object : (c : Bool) → c ≡ true → (cast_from c (length D) s.count p).first ≡ p
    first-object true q = refl
    first-object false q = clash q refl

    -- p is led
    led : (ps : List Place) → Errand m s p true true a u ps → LeadsOn m (ground u) (begin a) ps (stand c false)
    led ps q = rw q.2 (subst (λ (r : Post). LeadsOn m (ground u) (begin a) (places (with p q.0)) r)
        (post-same 0 (follows x p) _ _ _ _ _ _ (follows-but x (state (row s) a) (state (row s) u) ∙ sym (alone (state (row s) u) (state (row s) e) first_slot)) (sym (alone p cast.first (first-object c))) (number c))
        (lead-on m w s known cast 1 (ground u) (fit u) (begin a) more x p (state (row s) a) (state (row s) u) (follows-own x (state (row s) a)) (follows-own x p) q.0 q.1))
      where
        number : (c : Bool) → length D + s.count ≡ cond c (cast_from c (length D) s.count p).second (cast_from c (length D) s.count p).first
        number true = refl
        number false = refl

    -- the first carried variable's object is there then
    approached : (ps : List Place) → Approach m s c (cast_from c (length D) s.count p).first e ps → LeadsOn m (ground u) (stand c false) ps (stand (holder m 0 0) false)
    approached ps = go c carried (fit u)
      where
        go : (c : Bool) → first_carried m ≡ c → Fits m s (cast_from c (length D) s.count p) 1 (ground u) → Approach m s c (cast_from c (length D) s.count p).first e ps
            → LeadsOn m (ground u) (stance m s (cast_from c (length D) s.count p) (ground u) 0 (follows x p) c e false f) ps (stance m s (cast_from c (length D) s.count p) (ground u) 0 (follows x p) (holder m 0 0) e false f)
        go true q fits none_made = rw (none_made, first_holds m known.model some-variable q) (λ d a n. (d, a, n, refl))
        go false q fits made = errand-first m w s known (cast_from false (length D) s.count p) 1 (ground u) fits 0 known.model.one (follows x p) (holder m 0 0) false false e e f (variables-apart m known.model 0) (λ y z. (refl, omega arith)) (λ z. refl) (ready_at m s known.proper σ meets.0 0 e seats.0) ps made

    -- and the second's
    approached-too : (ps : List Place) → Errand m s (cast_from c (length D) s.count p).second (holder m 1 0) false f f ps → LeadsOn m (ground u) (stand (holder m 0 0) false) ps (stand (holder m 0 0) (holder m 1 0))
    approached-too = errand-second m w s known cast 1 (ground u) (fit u) 0 known.model.one (follows x p) (holder m 1 0) (holder m 0 0) false e f f (λ y z. first-there m known.model 1 y) (λ z. refl) (ready_at m s known.proper σ meets.0 1 f seats.1)

    -- who is followed with the stage met: the two
    stood-first : (y : ℕ) → y ≡ carried_at m 0 → there (holder m 0 0) (state (row s) e) ≡ stood (question_of m) (row s) (get_or (question_of m) 0 []) σ (follows x (state (row s) u)) y
    stood-first y q = rw q (⊎_elim
        (λ (z : holder m 0 0 ≡ true). rw (z, carried-own m known.model 0 0 z, seats.0 z) refl)
        (λ (z : holder m 0 0 ≡ false). rw z (sym (follows-other x (state (row s) u) (carried_at m 0) (λ r. clash (subst (λ (v : ℕ). elem v (vars (get_or (question_of m) 0 [])) ≡ true) (sym r) (first-stands m known.model some-variable)) z)))) (cases_Bool (holder m 0 0)))

    stood-second : (y : ℕ) → y ≡ carried_at m 1 → there (holder m 1 0) (state (row s) f) ≡ stood (question_of m) (row s) (get_or (question_of m) 0 []) σ (follows x (state (row s) u)) y
    stood-second y q = rw q (⊎_elim
        (λ (z : holder m 1 0 ≡ true). rw (z, carried-own m known.model 1 0 z, seats.1 z) refl)
        (λ (z : holder m 1 0 ≡ false). rw z (sym (follows-other x (state (row s) u) (carried_at m 1) (λ r. not-second m known.model some-variable (sym r))))) (cases_Bool (holder m 1 0)))

    -- and p
    stood-other : (y : ℕ) → y ≢ carried_at m 0 → y ≢ carried_at m 1 → follows x (state (row s) u) y ≡ stood (question_of m) (row s) (get_or (question_of m) 0 []) σ (follows x (state (row s) u)) y
    stood-other y n o = ⊎_elim (λ q. rw q mine) (λ q. others q) (same? y x)
      where
        mine : follows x (state (row s) u) x ≡ stood (question_of m) (row s) (get_or (question_of m) 0 []) σ (follows x (state (row s) u)) x
        mine = rw (first-stands m known.model some-variable, follows-own x (state (row s) u)) (go (shared (question_of m) x))
          where
            go : (d : Bool) → some (state (row s) u) ≡ follow d (some (state (row s) u)) (state (row s) u)
            go true = refl
            go false = refl

        others : y ≢ x → follows x (state (row s) u) y ≡ stood (question_of m) (row s) (get_or (question_of m) 0 []) σ (follows x (state (row s) u)) y
        others q = rw (follows-other x (state (row s) u) y q) (go (elem y (vars (get_or (question_of m) 0 []))) (shared (question_of m) y) refl)
          where
            go : (v d : Bool) → shared (question_of m) y ≡ d → none ≡ cond v (follow d none (state (row s) (σ y))) none
            go false d r = refl
            go true false r = refl
            go true true r = ⊎_elim (λ z. absurd (n z)) (λ z. absurd (o z)) (carried-only m known.model y r)

    stood-all : pair m (follows x (state (row s) u)) (there (holder m 0 0) (state (row s) e)) (there (holder m 1 0) (state (row s) f)) ≡ stood (question_of m) (row s) (get_or (question_of m) 0 []) σ (follows x (state (row s) u))
    stood-all = fun_ext (λ y. ⊎_elim
        (λ q. rw (eq-eqb y (carried_at m 1) q) (stood-second y q))
        (λ o. rw (ne_eqb y (carried_at m 1) o) (⊎_elim (λ q. rw (eq-eqb y (carried_at m 0) q) (stood-first y q)) (λ n. rw (ne_eqb y (carried_at m 0) n) (stood-other y n o)) (same? y (carried_at m 0)))) (same? y (carried_at m 1)))

    -- p is there still
    kept : (y o : ℕ) → follows x p y ≡ some o → walkers m cast (ground u) (holder m 0 0) (holder m 1 0) y ≡ some o
    kept y o q = let r = follows-only x p y o q in rw (r.0, r.1) (rw (ne_eqb x (carried_at m 1) (not-second m known.model some-variable)) (go c carried))
      where
        go : (c : Bool) → first_carried m ≡ c → cond (eqb x (carried_at m 0)) (there (holder m 0 0) (cast_from c (length D) s.count p).first) (follows x p x) ≡ some p
        go true z = rw (z, first_holds m known.model some-variable z) refl
        go false z = rw z (follows-own x p)

    -- the objects of the carried variables take part where these stand in the stage
    same-objects : gathering m cast (follows x p) 0 σ ≡ meet 1 (map (acting (λ o. cast.base + o) (walkers m cast (ground u) (holder m 0 0) (holder m 1 0)) σ) (names (get_or (question_of m) 0 [])))
    same-objects = ap (meet 1) (map-among _ _ (names (get_or (question_of m) 0 [])) (λ y i. ap (λ (z : Option ℕ). who z (cast.base + σ y)) (let v = firsts-among y [] (vars (get_or (question_of m) 0 [])) i in
        pair-each m (λ (y z : Option ℕ). y ≡ z) (follows x p) (follows x p) _ _ _ _ y (λ q. now 0 cast.first y q v) (λ q. now 1 cast.second y q v) (λ n o. refl))))
      where
        now : (v b y : ℕ) → y ≡ carried_at m v → elem y (vars (get_or (question_of m) 0 [])) ≡ true → some b ≡ there (holder m v 0) b
        now v b y q i = rw (subst (λ (z : ℕ). elem z (vars (get_or (question_of m) 0 [])) ≡ true) q i) refl

    -- stage 1 is met
    met : LeadsOn m (ground u) (stand (holder m 0 0) (holder m 1 0)) (gathering m cast (follows x p) 0 σ ∷ []) (post m s cast (ground u) 1 (chosen m 0 1) e (chosen m 1 1) f)
    met = subst (λ (q : Place). LeadsOn m (ground u) (stand (holder m 0 0) (holder m 1 0)) (q ∷ []) (post m s cast (ground u) 1 (chosen m 0 1) e (chosen m 1 1) f)) (sym same-objects)
        (meet-on m w s known cast 1 (ground u) (fit u) (stand (holder m 0 0) (holder m 1 0)) more σ meets (follows x (state (row s) u)) stood-all kept (λ y q. follows-none x p (state (row s) u) y q))

  -- THE OPENING LEADS to the pair of level 1
  pub opening-leads : (a e f : ℕ) (ps : List Place) (h : Opening m s (cast_from c (length D) s.count p) c p a e f ps) → LeadsOn m (ground (h.choice x)) (begin a) ps (post m s cast (ground (h.choice x)) 1 (chosen m 0 1) e (chosen m 1 1) f)
  opening-leads a e f ps h = subst (λ (qs : List Place). LeadsOn m (ground (h.choice x)) (begin a) qs (post m s cast (ground (h.choice x)) 1 (chosen m 0 1) e (chosen m 1 1) f)) (sym h.parts)
      (leads-then m (ground (h.choice x)) _ _ _ h.way _ (led a e f h.choice h.meets h.seats h.way h.led)
      (leads-then m (ground (h.choice x)) _ _ _ h.first _ (approached a e f h.choice h.meets h.seats h.first h.makes)
      (leads-then m (ground (h.choice x)) _ _ _ h.second _ (approached-too a e f h.choice h.meets h.seats h.second h.makes-too)
      (met a e f h.choice h.meets h.seats))))
