-- One stage back along the levels, and the last.
use mathlib.Core.Path.{◌≡◌, refl, sym, ap, ◌∙◌, subst, fun_ext}
use mathlib.Core.Logic.{◌⊎◌, inl, inr, ⊎_elim, ◌≢◌}
use mathlib.Core.Bool.{Bool, true, false, cond, ◌||◌}
use mathlib.Core.List.{List, [], ◌∷◌, ◌++◌, map}
use mathlib.Core.Option.{Option, none, some}
use Prim.Native.Nat.{ℕ, suc, ◌+◌, ◌-◌, ◌*◌, ◌≤◌, ◌<◌}
use native.Mathlib.Omega.{arith}
use native.Mathlib.Nat.{mul-le-mul}
use lib.Dec.{eqb}
use lib.ListN.{length, get_or, length-append}
use Rattle.std.proofs.lemmas.Bool.{cases_Bool}
use Rattle.limits.specs.Limits as limit
use Rattle.semantics.specs.Models.{elem, vars, names, shared}
use Rattle.semantics.specs.Facts.{state, Meets}
use Rattle.semantics.specs.Runs.{Place, meet, nobody}
use Rattle.semantics.specs.Building.{lineage}
use Rattle.semantics.specs.Walkers.{Stand, follow, stood, but, acting, who, Touches}
use Rattle.semantics.proofs.Tools.{clash, elem-here, or_right, no_none, firsts-among}
use Rattle.semantics.proofs.WalkersSound.{touches-append}
use Rattle.model.specs.declared.Model.{Model}
use Rattle.model.specs.Records.{program_of, question_of, carried_at}
use Rattle.model.proofs.Accepted.{stages}
use Rattle.model.proofs.Carried.{carried-own, carried-only}
use Rattle.search_states.specs.declared.States.{States}
use Rattle.search_states.specs.States.{row, by, from}
use Rattle.search_states.proofs.Laws.{length-row}
use Rattle.search_levels.specs.Levels.{holder, chosen, pair_at, Moved, Seated, Pointed, Next}
use Rattle.witness_table.specs.Runs.{backwards}
use Rattle.witness_table.proofs.Laws.{length-backwards, backwards-none, backwards-on, numerable-append}
use Rattle.witness_lineage.specs.Lineage.{lines_to}
use Rattle.witness_lineage.proofs.Laws.{lineage-enough}
use Rattle.witness_meetings.specs.declared.Cast.{Cast}
use Rattle.witness_meetings.specs.Meetings.{Known, Written, pair, Seats, gathering, Seating, Met}
use Rattle.witness_walk.specs.Walk.{Recorded, Ready, Errand, effort, Post, Ground, Fits, there, walkers, stance, post, Goes, Sits, LeadsTo, ahead, Behind}
use Rattle.witness_walk.proofs.Legs.{but_same, LeadsOn, plays-on, lead-on, make-on, meet-on}
use Rattle.witness_walk.proofs.Errands.{touches-errand}
use Rattle.witness_walk.proofs.Pairs.{or_nothing, chosen-with, first-there, variables-apart, pair-each, pair-first, pair-second, but_first, but-second}

-- the table keeps its length
pub written-length : (G : List Place → Type 0) (most : ℕ) (run run' : List ℕ) (at at' : ℕ) → Written G most run at run' at' → length run' ≡ length run
written-length G most run run' at at' h = ap length h.written ∙ length-backwards run at h.places

-- PLACES ARE WRITTEN BEFORE others: those of H come first in the run, and behind them in the table
pub written_on : (G H K : List Place → Type 0) → ((ps qs : List Place) → H ps → G qs → K (ps ++ qs)) → (most few : ℕ) (run₀ run run' : List ℕ) (at₀ at at' : ℕ)
    → Written G most run₀ at₀ run at → Written H few run at run' at' → Written K (few + most) run₀ at₀ run' at'
written_on G H K join most few run₀ run run' at₀ at at' g h = record {
  places = h.places ++ g.places;
  good = join h.places g.places h.good g.good;
  few = omega (arith, g.few, h.few, length-append h.places g.places);
  numerable = numerable-append h.places g.places h.numerable g.numerable;
  written = h.written ∙ ap (λ (t : List ℕ). backwards t at h.places) g.written ∙ (rw g.index (backwards-on run₀ at₀ g.places h.places));
  index = omega (arith, g.index, h.index, length-append h.places g.places);
}

pub map-among : (f g : ℕ → ℕ) (xs : List ℕ) → ((x : ℕ) → elem x xs ≡ true → f x ≡ g x) → map f xs ≡ map g xs
map-among f g [] h = refl
map-among f g (x ∷ xs) h = rw (h x (elem-here x xs), map-among f g xs (λ y e. h y (or_right (eqb y x) (elem y xs) e))) refl

-- posts with the same parts
pub post-same : (i : ℕ) (c st st' ob ob' : ℕ → Option ℕ) (n n' : ℕ) → st ≡ st' → ob ≡ ob' → n ≡ n'
    → ◌≡◌ {A = Post} (record { met = i; carried = c; states = st; objects = ob; many = n }) (record { met = i; carried = c; states = st'; objects = ob'; many = n' })
post-same i c st st' ob ob' n n' a b d = rw (a, b, d) refl

module _ (m : Model) (w : List ℕ) (s : States) (known : Known m w s) (cast : Cast) (until : ℕ) where
  -- ON A GROUND for the cast, A STAGE k
  module _ (g : Ground) (fits : Fits m s cast until g) (k : ℕ) (here : k < m.stagecount) where
    more : k < length (question_of m)
    more = rw (stages m known.model) here

    -- an errand of object o, for the variable x that stands in the stage
    errand-on : (p : Post) → p.met ≡ k → (x o u e : ℕ) (c : Bool) → p.states x ≡ there c (state (row s) u) → p.objects x ≡ there c o → (c ≡ false → p.many ≡ o) → Ready m s true c u e → (ps : List Place) → Errand m s o true c u e ps
        → LeadsOn m g p ps (record { met = p.met; carried = p.carried; states = but p.states x (some (state (row s) e)); objects = but p.objects x (some o); many = cond c p.many (suc o) })
    errand-on p met x o u e true at is next ready ps h = rw (but_same p.objects x (some o) is, h.2)
        (lead-on m w s known cast until g fits p (rw met more) x o (state (row s) u) (state (row s) e) at is h.0 h.1)
    errand-on p met x o u e false at is next ready ps h = rw (h, lines)
        (make-on m w s known cast until g fits p (rw met more) x o e is (next refl) inside)
      where
        inside : e < length (row s)
        inside = rw (length-row s known.proper) ready

        lines : lines_to m s e ≡ lineage (program_of m) (by s) (from s) (length (row s)) e
        lines = lineage-enough (program_of m) (row s) (by s) (from s) known.found (suc e) (length (row s)) e (omega arith) inside inside

    -- the first variable's, c and d being whether the objects were there before
    pub errand-first : (r : ℕ → Option ℕ) (h c d : Bool) (u e v : ℕ) → (h ≡ true → carried_at m 0 ≢ carried_at m 1) → (h ≡ true → c ≡ false → (d ≡ false) × (cast.second ≡ suc cast.first)) → (h ≡ false → u ≡ e) → Ready m s h c u e
        → (ps : List Place) → Errand m s cast.first h c u e ps → LeadsOn m g (stance m s cast g k r c u d v) ps (stance m s cast g k r (c || h) e d v)
    errand-first r false c d u e v apart alone stays ready ps q = rw (q, or_nothing c, stays refl) (λ f a n. (f, a, n, refl))
    errand-first r true true d u e v apart alone stays ready ps q = subst (λ (q : Post). LeadsOn m g (stance m s cast g k r true u d v) ps q)
        (post-same k r _ _ _ _ _ _ (but_first m g.stand (apart refl) _ _ _) (but_first m g.others (apart refl) _ _ _) refl)
        (errand-on (stance m s cast g k r true u d v) refl (carried_at m 0) cast.first u e true (pair-first m g.stand (apart refl) _ _) (pair-first m g.others (apart refl) _ _) (λ z. clash refl z) ready ps q)
    errand-first r true false d u e v apart alone stays ready ps q = let n = alone refl refl in subst (λ (q : Post). LeadsOn m g (stance m s cast g k r false u d v) ps q)
        (post-same k r _ _ _ _ _ _ (but_first m g.stand (apart refl) _ _ _) (but_first m g.others (apart refl) _ _ _) (rw n.0 (sym n.1)))
        (errand-on (stance m s cast g k r false u d v) refl (carried_at m 0) cast.first u e false (pair-first m g.stand (apart refl) _ _) (pair-first m g.others (apart refl) _ _) (λ z. rw n.0 refl) ready ps q)

    -- the second's
    pub errand-second : (r : ℕ → Option ℕ) (h c d : Bool) (e u f : ℕ) → (h ≡ true → d ≡ false → c ≡ true) → (h ≡ false → u ≡ f) → Ready m s h d u f
        → (ps : List Place) → Errand m s cast.second h d u f ps → LeadsOn m g (stance m s cast g k r c e d u) ps (stance m s cast g k r c e (d || h) f)
    errand-second r false c d e u f behind stays ready ps q = rw (q, or_nothing d, stays refl) (λ g a n. (g, a, n, refl))
    errand-second r true c true e u f behind stays ready ps q = subst (λ (q : Post). LeadsOn m g (stance m s cast g k r c e true u) ps q)
        (post-same k r _ _ _ _ _ _ (but-second m g.stand _ _ _) (but-second m g.others _ _ _) refl)
        (errand-on (stance m s cast g k r c e true u) refl (carried_at m 1) cast.second u f true (pair-second m g.stand _ _) (pair-second m g.others _ _) (λ z. clash refl z) ready ps q)
    errand-second r true c false e u f behind stays ready ps q = subst (λ (q : Post). LeadsOn m g (stance m s cast g k r c e false u) ps q)
        (post-same k r _ _ _ _ _ _ (but-second m g.stand _ _ _) (but-second m g.others _ _ _) refl)
        (errand-on (stance m s cast g k r c e false u) refl (carried_at m 1) cast.second u f false (pair-second m g.stand _ _) (pair-second m g.others _ _) (λ z. rw (behind refl refl) refl) ready ps q)

    -- THE MEETING: whoever stands in the stage is there by then
    module _ (above : until ≤ k) (e f : ℕ) (σ : ℕ → ℕ) (meets : Meets (program_of m) (row s) σ (get_or (question_of m) k [])) (seats : Seats m k σ e f) where
      abbrev before : Stand
      before = pair m g.stand (there (chosen m 0 k) (state (row s) e)) (there (chosen m 1 k) (state (row s) f))

      -- who is followed with the stage met, for the variable of a cell
      stood-cell : (v e : ℕ) → (holder m v k ≡ true → σ (carried_at m v) ≡ e) → (x : ℕ) → x ≡ carried_at m v
          → there (chosen m v (suc k)) (state (row s) e) ≡ cond (elem x (vars (get_or (question_of m) k []))) (follow (shared (question_of m) x) (there (chosen m v k) (state (row s) e)) (state (row s) (σ x))) (there (chosen m v k) (state (row s) e))
      stood-cell v e seat x q = rw q (⊎_elim
          (λ (z : holder m v k ≡ true). rw (z, carried-own m known.model v k z, seat z, or_right (chosen m v k) true refl) refl)
          (λ (z : holder m v k ≡ false). rw (z, or_nothing (chosen m v k)) refl) (cases_Bool (holder m v k)))

      -- and for any other
      stood-neither : (x : ℕ) → x ≢ carried_at m 0 → x ≢ carried_at m 1 → g.stand x ≡ cond (elem x (vars (get_or (question_of m) k []))) (follow (shared (question_of m) x) (g.stand x) (state (row s) (σ x))) (g.stand x)
      stood-neither x n o = go (elem x (vars (get_or (question_of m) k []))) refl (shared (question_of m) x) refl
        where
          go : (v : Bool) → elem x (vars (get_or (question_of m) k [])) ≡ v → (c : Bool) → shared (question_of m) x ≡ c → g.stand x ≡ cond v (follow c (g.stand x) (state (row s) (σ x))) (g.stand x)
          go false i c q = refl
          go true i false q = rw (fits.alike x (fits.aside x k above i n o)) refl
          go true i true q = ⊎_elim (λ z. absurd (n z)) (λ z. absurd (o z)) (carried-only m known.model x q)

      stood-both : pair m g.stand (there (chosen m 0 (suc k)) (state (row s) e)) (there (chosen m 1 (suc k)) (state (row s) f)) ≡ stood (question_of m) (row s) (get_or (question_of m) k []) σ before
      stood-both = fun_ext (λ x. pair-each m
          (λ (y z : Option ℕ). z ≡ cond (elem x (vars (get_or (question_of m) k []))) (follow (shared (question_of m) x) y (state (row s) (σ x))) y)
          g.stand g.stand _ _ _ _ x (stood-cell 0 e seats.0 x) (stood-cell 1 f seats.1 x) (stood-neither x))

      -- who was carried is there still
      kept : (x o : ℕ) → walkers m cast g (chosen m 0 k) (chosen m 1 k) x ≡ some o → walkers m cast g (chosen m 0 (suc k)) (chosen m 1 (suc k)) x ≡ some o
      kept x = pair-each m (λ (y z : Option ℕ). (o : ℕ) → y ≡ some o → z ≡ some o) g.others g.others _ _ _ _ x (λ q. still (chosen m 0 k) (holder m 0 k) cast.first) (λ q. still (chosen m 1 k) (holder m 1 k) cast.second) (λ n p o z. z)
        where
          still : (c h : Bool) (a o : ℕ) → there c a ≡ some o → there (c || h) a ≡ some o
          still true h a o z = z
          still false h a o z = no_none z

      empty : (x : ℕ) → walkers m cast g (chosen m 0 k) (chosen m 1 k) x ≡ none → before x ≡ none
      empty x = pair-each m (λ (y z : Option ℕ). y ≡ none → z ≡ none) g.others g.stand _ _ _ _ x (λ q. nothing (chosen m 0 k) cast.first (state (row s) e)) (λ q. nothing (chosen m 1 k) cast.second (state (row s) f)) (λ n p z. fits.alike x z)
        where
          nothing : (c : Bool) (a b : ℕ) → there c a ≡ none → there c b ≡ none
          nothing true a b z = no_none (sym z)
          nothing false a b z = refl

      -- the two objects take part where their variables stand in the stage
      same-objects : gathering m cast nobody k σ ≡ meet (suc k) (map (acting (λ o. cast.base + o) (walkers m cast g (chosen m 0 (suc k)) (chosen m 1 (suc k))) σ) (names (get_or (question_of m) k [])))
      same-objects = ap (meet (suc k)) (map-among _ _ (names (get_or (question_of m) k [])) (λ x i. ap (λ (z : Option ℕ). who z (cast.base + σ x)) (let v = firsts-among x [] (vars (get_or (question_of m) k [])) i in
          pair-each m (λ (y z : Option ℕ). y ≡ z) nobody g.others _ _ _ _ x (λ q. now 0 cast.first x q v) (λ q. now 1 cast.second x q v) (λ n p. sym (fits.aside x k above v n p)))))
        where
          now : (v a x : ℕ) → x ≡ carried_at m v → elem x (vars (get_or (question_of m) k [])) ≡ true → some a ≡ there (chosen m v (suc k)) a
          now v a x q i = rw (chosen-with m v k (subst (λ (y : ℕ). elem y (vars (get_or (question_of m) k [])) ≡ true) q i)) refl

      meeting-leads : LeadsOn m g (post m s cast g k (chosen m 0 (suc k)) e (chosen m 1 (suc k)) f) (gathering m cast nobody k σ ∷ []) (post m s cast g (suc k) (chosen m 0 (suc k)) e (chosen m 1 (suc k)) f)
      meeting-leads = subst (λ (q : Place). LeadsOn m g (post m s cast g k (chosen m 0 (suc k)) e (chosen m 1 (suc k)) f) (q ∷ []) (post m s cast g (suc k) (chosen m 0 (suc k)) e (chosen m 1 (suc k)) f)) (sym same-objects)
          (meet-on m w s known cast until g fits (post m s cast g k (chosen m 0 (suc k)) e (chosen m 1 (suc k)) f) more σ meets before stood-both kept empty)

    meeting-on : until ≤ k → (e f : ℕ) (ps : List Place) → Met m s cast k e f ps → LeadsOn m g (post m s cast g k (chosen m 0 (suc k)) e (chosen m 1 (suc k)) f) ps (post m s cast g (suc k) (chosen m 0 (suc k)) e (chosen m 1 (suc k)) f)
    meeting-on above e f ps h = rw h.3 (meeting-leads above e f h.0 h.1 h.2)

  -- what goes on from one post goes on from another, behind places that lead there and are steps of the cast's two objects
  goes_on : (G : List Place → Type 0) (i i' : ℕ) (c c' : Bool) (e e' : ℕ) (d d' : Bool) (f f' : ℕ) → ((g : Ground) → Fits m s cast until g → (ps : List Place) → G ps → LeadsOn m g (post m s cast g i c e d f) ps (post m s cast g i' c' e' d' f'))
      → ((ps : List Place) → G ps → Touches (λ o. (o ≡ cast.first) ⊎ (o ≡ cast.second)) ps) → (most few : ℕ) (run₀ run run' : List ℕ) (at at' : ℕ)
      → Written (Goes m s cast until i' c' e' d' f') most run₀ 0 run at → Written G few run at run' at' → Written (Goes m s cast until i c e d f) (few + most) run₀ 0 run' at'
  goes_on G i i' c c' e e' d d' f f' leads touches most few run₀ run run' at at' = written_on (Goes m s cast until i' c' e' d' f') G (Goes m s cast until i c e d f) (λ ps qs p q. record {
    plays = λ g fits. plays-on m g (post m s cast g i c e d f) (post m s cast g i' c' e' d' f') ps qs (leads g fits ps p) (q.plays g fits);
    touches = touches-append _ ps qs (touches ps p) q.touches;
  }) most few run₀ run run' 0 at at'

  touches-met : (k e f : ℕ) (ps : List Place) → Met m s cast k e f ps → Touches (λ o. (o ≡ cast.first) ⊎ (o ≡ cast.second)) ps
  touches-met k e f ps h = rw h.3 tt

-- an errand has at most one step for each state
pub effort-most : (n : ℕ) (h c : Bool) → effort n h c ≤ n
effort-most n false c = omega arith
effort-most n true false = omega arith
effort-most n true true = omega arith

-- how many steps a carried object may have taken, with an errand more
pub ahead_more : (n k : ℕ) (h c : Bool) → effort n h c + ahead n k c ≤ ahead n (suc k) (c || h)
ahead_more n k false true = omega arith
ahead_more n k false false = omega arith
ahead_more n k true true = omega arith
ahead_more n k true false = omega arith

module _ (m : Model) (w : List ℕ) (s : States) (rows table steps ways : List ℕ) (rec : Recorded m w s rows table steps ways) where
  -- a variable of the stage has its slot
  seated-in : (h : Bool) (σ : ℕ → ℕ) (x e : ℕ) → Seated h σ x e → h ≡ true → σ x ≡ e
  seated-in true σ x e seat q = seat
  seated-in false σ x e seat q = clash q refl

  -- HOW A PAIR CAME to level k + 1
  module _ (k e f : ℕ) (here : k < m.stagecount) (sits : Sits rows (suc k) e f) where
    next : Next m (row s) w ways rec.asked k (pair_at rows k) e f
    next = ((rec.levels.stages k here).pairs e f sits.0 sits.1).0 sits.2

    pub came_from : (u v : ℕ) × LeadsTo m rows ways k e f u v
    came_from = let n = next.0 in (n.0, n.1, ((n.2, n.3, n.4), n.5, n.6))

    -- the stage holds, and as is asked besides
    pub came-besides : (σ : ℕ → ℕ) × Seating m w s k e f σ × Pointed m rec.asked k σ
    came-besides = let n = next.1 in (n.0, (n.1, (seated-in (holder m 0 k) n.0 (carried_at m 0) e n.2, seated-in (holder m 1 k) n.0 (carried_at m 1) f n.3)), n.4)

    pub came-met : (σ : ℕ → ℕ) × Seating m w s k e f σ
    came-met = let c = came-besides in (c.0, c.1)

    -- each object can do its errand
    ready : (v u e : ℕ) → e < limit.listed → (holder m v k ≡ true → came-met.0 (carried_at m v) ≡ e) → Moved ways (holder m v k) (chosen m v k) u e → Ready m s (holder m v k) (chosen m v k) u e
    ready v u e l seat = go (holder m v k) refl (chosen m v k)
      where
        go : (h : Bool) → holder m v k ≡ h → (c : Bool) → Moved ways h c u e → Ready m s h c u e
        go false q c moved = tt
        go true q false moved = omega (arith, seat q, came-met.1.0.0 (carried_at m v) q, length-row s rec.known.proper)
        go true q true moved = (rec.comes.bits u e (omega (arith, l))).0 moved

    module _ (u v : ℕ) (leads : LeadsTo m rows ways k e f u v) where
      pub ready-first : Ready m s (holder m 0 k) (chosen m 0 k) u e
      ready-first = ready 0 u e sits.0 came-met.1.1.0 leads.1

      pub ready-second : Ready m s (holder m 1 k) (chosen m 1 k) v f
      ready-second = ready 1 v f sits.1 came-met.1.1.1 leads.2

  module _ (cast : Cast) (until : ℕ) (run₀ : List ℕ) where
    -- THE LAST: a pair of the last level
    pub behind-start : until ≤ m.stagecount → (e f : ℕ) → Sits rows m.stagecount e f → Behind m s cast until rows run₀ run₀ m.stagecount e f 0
    behind-start above e f h = record {
      level = omega arith;
      above = above;
      sits = h;
      most = 0;
      played = record { places = []; good = record { plays = λ g fits d a n. sym (stages m rec.known.model); touches = tt }; few = omega arith; numerable = tt; written = sym (backwards-none run₀ 0); index = omega arith };
      few = fits (chosen m 0 m.stagecount) (chosen m 1 m.stagecount);
    }
      where
        fits : (c d : Bool) → 0 + m.stagecount + ahead s.count m.stagecount c + ahead s.count m.stagecount d ≤ m.stagecount + limit.carried * suc (m.stagecount * (s.count - 1))
        fits true true = omega arith
        fits true false = omega arith
        fits false true = omega arith
        fits false false = omega arith

    -- few places are written
    pub behind-few : (run : List ℕ) (i e f at : ℕ) (h : Behind m s cast until rows run₀ run i e f at) → h.most ≤ limit.carried * limit.walked + limit.stages
    behind-few run i e f at h = let a = h.few in let b = rec.known.model.stages in let c = rec.known.proper.count in omega (arith, mul-le-mul b (let k : s.count - 1 ≤ 126 = omega arith in k))

    pub behind-index : (run : List ℕ) (i e f at : ℕ) → Behind m s cast until rows run₀ run i e f at → at ≤ limit.carried * limit.walked + limit.stages
    behind-index run i e f at h = omega (arith, behind-few run i e f at h, h.played.index, h.played.few)

    -- ONE STAGE BACK: its meeting is written, then the second object's errand, then the first's
    pub behind-back : (run run₁ run₂ run₃ : List ℕ) (k e f u v at at₁ at₂ at₃ : ℕ) → until ≤ k → Behind m s cast until rows run₀ run (suc k) e f at → LeadsTo m rows ways k e f u v
        → Written (Met m s cast k e f) 1 run at run₁ at₁
        → Written (Errand m s cast.second (holder m 1 k) (chosen m 1 k) v f) (effort s.count (holder m 1 k) (chosen m 1 k)) run₁ at₁ run₂ at₂
        → Written (Errand m s cast.first (holder m 0 k) (chosen m 0 k) u e) (effort s.count (holder m 0 k) (chosen m 0 k)) run₂ at₂ run₃ at₃
        → Behind m s cast until rows run₀ run₃ k u v at₃
    behind-back run run₁ run₂ run₃ k e f u v at at₁ at₂ at₃ above h leads met second first = record {
      level = omega (arith, h.level);
      above = above;
      sits = leads.0;
      most = effort s.count (holder m 0 k) (chosen m 0 k) + (effort s.count (holder m 1 k) (chosen m 1 k) + (1 + h.most));
      played = goes_on m w s rec.known cast until _ k k (chosen m 0 k) (chosen m 0 (suc k)) u e (chosen m 1 k) (chosen m 1 k) v v
          (λ g fits. errand-first m w s rec.known cast until g fits k here _ (holder m 0 k) (chosen m 0 k) (chosen m 1 k) u e v (variables-apart m rec.known.model k) (λ y z. (alone z, fits.order k above z)) (stays (holder m 0 k) (chosen m 0 k) u e leads.1) (ready-first k e f here h.sits u v leads))
          (touches-errand m s cast.first _ (inl refl) (holder m 0 k) (chosen m 0 k) u e)
          _ _ run₀ run₂ run₃ at₂ at₃
          (goes_on m w s rec.known cast until _ k k (chosen m 0 (suc k)) (chosen m 0 (suc k)) e e (chosen m 1 k) (chosen m 1 (suc k)) v f
          (λ g fits. errand-second m w s rec.known cast until g fits k here _ (holder m 1 k) (chosen m 0 (suc k)) (chosen m 1 k) e v f (λ y z. first-there m rec.known.model (suc k) (chosen-with m 1 k y)) (stays (holder m 1 k) (chosen m 1 k) v f leads.2) (ready-second k e f here h.sits u v leads))
          (touches-errand m s cast.second _ (inr refl) (holder m 1 k) (chosen m 1 k) v f)
          _ _ run₀ run₁ run₂ at₁ at₂
          (goes_on m w s rec.known cast until _ k (suc k) (chosen m 0 (suc k)) (chosen m 0 (suc k)) e e (chosen m 1 (suc k)) (chosen m 1 (suc k)) f f
          (λ g fits. meeting-on m w s rec.known cast until g fits k here above e f) (touches-met m w s rec.known cast until k e f) _ _ run₀ run run₁ at at₁ h.played met) second) first;
      few = omega (arith, h.few, ahead_more s.count k (holder m 0 k) (chosen m 0 k), ahead_more s.count k (holder m 1 k) (chosen m 1 k));
    }
      where
        here : k < m.stagecount
        here = h.level

        -- where the first object is made, the second is not there yet
        alone : chosen m 0 k ≡ false → chosen m 1 k ≡ false
        alone z = ⊎_elim (λ q. clash (first-there m rec.known.model k q) z) (λ q. q) (cases_Bool (chosen m 1 k))

        stays : (d c : Bool) (a b : ℕ) → Moved ways d c a b → d ≡ false → a ≡ b
        stays false c a b moved q = moved
        stays true c a b moved q = clash refl q
