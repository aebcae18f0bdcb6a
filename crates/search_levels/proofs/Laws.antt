-- WHAT THE LEVELS SAY: their pairs are the states in which the carried objects' walkers can stand, and the last level has one exactly if the question is reached.
use mathlib.Core.Path.{◌≡◌, refl, sym, ◌∙◌, subst}
use mathlib.Core.Logic.{⊎_elim, ◌↔◌}
use mathlib.Core.Bool.{Bool, true, false, ◌&&◌, ◌||◌, false≢true, and-eq-true_iff}
use mathlib.Core.List.{List, []}
use mathlib.Core.Option.{Option, none, some}
use Prim.Native.Nat.{ℕ, zero, suc, ◌≤◌, ◌<◌}
use native.Mathlib.Omega.{arith}
use lib.Dec.{eqb}
use borrow.Author.Tests.{eqb-true, eq-eqb}
use lib.ListN.{length, get_or}
use Rattle.std.proofs.lemmas.Bool.{cases_Bool, or_cases}
use Rattle.limits.specs.Limits as limit
use Rattle.semantics.specs.Models.{elem, Body, Program, Question, vars, shared}
use Rattle.semantics.specs.Facts.{Database, state, In, Derived, Meets}
use Rattle.semantics.specs.Questions.{Reached}
use Rattle.semantics.specs.Runs.{Place, Session, nobody, start}
use Rattle.semantics.specs.Tables.{Shows}
use Rattle.semantics.specs.Building as building
use Rattle.semantics.specs.Building.{follows}
use Rattle.semantics.specs.Walkers as walkers
use Rattle.semantics.specs.Walkers.{Whole, Comes, Stand, stood, Level, Passable, ReachedFrom, is_some}
use Rattle.semantics.proofs.Tools.{clash, no_none, or_right}
use Rattle.semantics.proofs.Bodies.{more-facts}
use Rattle.semantics.proofs.WalkersComplete.{some_same, level-chosen, level-named}
use Rattle.semantics.proofs.WalkersPaper.{stands-alone}
use Rattle.semantics.proofs.WalkersVerdict as verdicts
use Rattle.model.specs.declared.Model.{Model}
use Rattle.model.specs.Records.{program_of, question_of, stage_at, carried_at}
use Rattle.model.specs.WellFormed.{WellFormed}
use Rattle.model.proofs.Accepted.{stages}
use Rattle.model.proofs.Carried.{carried-own, carried-only}
use Rattle.facts_bits.specs.Bits.{bit_at}
use Rattle.facts_table.specs.Table.{table_of}
use Rattle.search_states.specs.declared.States.{States}
use Rattle.search_states.specs.States.{row, by, from, Discovered}
use Rattle.search_states.proofs.Laws.{length-row}
use Rattle.search_ways.specs.Moves.{Marks, Exactly}
use Rattle.search_ways.specs.Steps.{Between}
use Rattle.std.specs.Prelude as std
use Rattle.std.specs.Prelude.{Some, None, IfSome}
use Rattle.search_levels.specs.declared.Levels.{Levels}
use Rattle.search_levels.specs.Levels.{holder, chosen, pair_at, Moved, Seated, first_variable, Pointed, Points, Filled}
use Rattle.search_levels.proofs.Targets.{first-stands}

-- WHERE A WALKER IS: in slot e, or its variable stood in no stage, and then the slot is 0
abbrev Sits : Database → Bool → Option ℕ → ℕ → Type 0
Sits S false o e = e ≡ 0
Sits S true o e = (e < length S) × (o ≡ some (state S e))

-- THE LEVELS over the found states, where the closed matrix says who can come to whom
module _ (m : Model) (wf : WellFormed m) (w : List ℕ) (s : States) (ex : Exactly m w s) (ways : List ℕ)
    (closed : Marks ways (Between s.count (λ e t. Comes (program_of m) (row s) (state (row s) e) (state (row s) t)))) (p : std.Option (List ℕ)) (l : Levels) (filled : Filled m (row s) w ways p l) where
  abbrev P : Program
  P = program_of m

  abbrev Q : Question
  Q = question_of m

  abbrev S : Database
  S = row s

  met : (σ : ℕ → ℕ) (b : Body) → Shows S (table_of w) σ b → Meets P S σ b
  met σ b h = more-facts S (In (table_of w)) (Derived P S) (λ r os. (ex.facts r os).0) σ b h

  shown : (σ : ℕ → ℕ) (b : Body) → Meets P S σ b → Shows S (table_of w) σ b
  shown σ b h = more-facts S (Derived P S) (In (table_of w)) (λ r os. (ex.facts r os).1) σ b h

  count : length S ≡ s.count
  count = length-row s ex.proper

  small : (e : ℕ) → e < length S → e < limit.listed
  small e h = omega (arith, ex.proper.count, count)

  -- ONE WALKER, that of the carried variable of cell v, at stage k, which holds for σ
  module _ (v k : ℕ) (σ : ℕ → ℕ) (holds : Meets P S σ (get_or Q k [])) (K : Stand) where
    abbrev x : ℕ
    x = carried_at m v

    abbrev after : Option ℕ
    after = stood Q S (get_or Q k []) σ K x

    -- it can come to the state of its object
    abbrev Leads : Type 0
    Leads = (t : ℕ) → holder m v k ≡ true → K x ≡ some t → Comes P S t (state S (σ x))

    stays : (c : Bool) (e : ℕ) → holder m v k ≡ false → Sits S c (K x) e → Sits S (c || holder m v k) after e
    stays true e q h = rw q h
    stays false e q h = rw q h

    arrives : (c : Bool) → holder m v k ≡ true → Sits S (c || holder m v k) after (σ x)
    arrives true q = rw (q, carried-own m wf v k q) (holds.0 x q, refl)
    arrives false q = rw (q, carried-own m wf v k q) (holds.0 x q, refl)

    -- where it is led from slot u to slot e, it is there
    goes : (u e : ℕ) → e < limit.listed → Sits S (chosen m v k) (K x) u → Moved ways (holder m v k) (chosen m v k) u e → Seated (holder m v k) σ x e → (chosen m v k ≡ true → Leads) × Sits S (chosen m v (suc k)) after e
    goes u e g = go (chosen m v k) (holder m v k) refl
      where
        go : (c h : Bool) → holder m v k ≡ h → Sits S c (K x) u → Moved ways h c u e → Seated h σ x e → (c ≡ true → Leads) × Sits S (c || holder m v k) after e
        go c false q i move seat = ((λ n t z y. clash z q), stays c e q (subst (λ (n : ℕ). Sits S c (K x) n) move i))
        go false true q i move seat = ((λ n t z y. absurd (false≢true n)), subst (λ (n : ℕ). Sits S (false || holder m v k) after n) seat (arrives false q))
        go true true q i move seat = (
          (λ n t z y. subst (λ (n : ℕ). Comes P S t (state S n)) (sym seat) (subst (λ (a : ℕ). Comes P S a (state S e)) (some_same (state S u) t (sym i.1 ∙ y)) ((closed.bits u e (omega arith)).0 move).2)),
          subst (λ (n : ℕ). Sits S (true || holder m v k) after n) seat (arrives true q),
        )

    -- and where it can come to its object's state, it is led there
    comes : (u : ℕ) → u < limit.listed → Sits S (chosen m v k) (K x) u → Leads → (e : ℕ) × (e < limit.listed) × Moved ways (holder m v k) (chosen m v k) u e × Seated (holder m v k) σ x e × Sits S (chosen m v (suc k)) after e
    comes u g i lead = go (chosen m v k) (holder m v k) refl i
      where
        here : holder m v k ≡ true → σ x < length S
        here q = holds.0 x q

        go : (c h : Bool) → holder m v k ≡ h → Sits S c (K x) u → (e : ℕ) × (e < limit.listed) × Moved ways h c u e × Seated h σ x e × Sits S (c || holder m v k) after e
        go c false q i = (u, g, refl, tt, stays c u q i)
        go false true q i = (σ x, small (σ x) (here q), i, refl, arrives false q)
        go true true q i = (
          σ x,
          small (σ x) (here q),
          (closed.bits u (σ x) (let z = small (σ x) (here q) in omega arith)).1 (subst (λ (n : ℕ). u < n) count i.0, subst (λ (n : ℕ). σ x < n) count (here q), lead (state S u) q i.1),
          refl,
          arrives true q,
        )

  -- the last level has a pair
  abbrev pub Ends : Type 0
  Ends = (e f : ℕ) × (e < limit.listed) × (f < limit.listed) × (pair_at l.rows m.stagecount e f ≡ true)

  -- both walkers are in the slots of the pair
  abbrev Both : ℕ → Stand → ℕ → ℕ → Type 0
  Both k K e f = Sits S (chosen m 0 k) (K (carried_at m 0)) e × Sits S (chosen m 1 k) (K (carried_at m 1)) f

  -- A STAND TO BEGIN WITH: stage 1 asks besides just what its walkers ask, and their variables stand there
  record Begins (from : Stand) : Type 0 where
    first : (σ : ℕ → ℕ) → Meets P S σ (get_or Q 0 []) → Pointed m p 0 σ ↔ ((y t : ℕ) → elem y (vars (get_or Q 0 [])) ≡ true → from y ≡ some t → Comes P S t (state S (σ y)))
    stands : (y t : ℕ) → from y ≡ some t → elem y (vars (get_or Q 0 [])) ≡ true

  module _ (from : Stand) (begins : Begins from) where
    -- after stage 1 a walker's variable stood in a stage,
    met-already : (v k t : ℕ) (K : Stand) → Level P Q S from (suc k) K → K (carried_at m v) ≡ some t → chosen m v (suc k) ≡ true
    met-already v k t K h q = go k (sym (level-chosen P Q S from (suc k) K h (carried_at m v)) ∙ rw q)
      where
        at-start : (o : Option ℕ) → from (carried_at m v) ≡ o → is_some o ≡ true → holder m v 0 ≡ true
        at-start none e z = absurd (false≢true z)
        at-start (some u) e z = begins.stands (carried_at m v) u e

        stood-in : (k : ℕ) → (shared Q (carried_at m v) && holder m v k) ≡ true → chosen m v (suc k) ≡ true
        stood-in k a = or_right (chosen m v k) (holder m v k) ((and-eq-true_iff (shared Q (carried_at m v)) (holder m v k)).0 a).1

        go : (k : ℕ) → walkers.chosen Q from (suc k) (carried_at m v) ≡ true → chosen m v (suc k) ≡ true
        go zero z = ⊎_elim (λ a. at-start (from (carried_at m v)) refl a) (stood-in 0) (or_cases (is_some (from (carried_at m v))) (shared Q (carried_at m v) && holder m v 0) z)
        go (suc k) z = ⊎_elim (λ a. rw (go k a)) (stood-in (suc k)) (or_cases (walkers.chosen Q from (suc k) (carried_at m v)) (shared Q (carried_at m v) && holder m v (suc k)) z)

    -- and is carried if it stands in a later one
    later : (k : ℕ) (K : Stand) → Level P Q S from (suc k) K → (y t : ℕ) → elem y (vars (get_or Q (suc k) [])) ≡ true → K y ≡ some t → shared Q y ≡ true
    later k K h y t e q = ⊎_elim (λ c. c)
        (λ c. ⊎_elim (λ d. d) (λ d. clash e (stands-alone Q 0 (suc k) y d (omega arith) (begins.stands y c.0 c.1))) (cases_Bool (shared Q y)))
        (level-named P Q S from (suc k) K h y t q)

    -- NO OTHER WALKER HAS TO COME ANYWHERE
    all-lead : (k : ℕ) (K : Stand) → Level P Q S from k K → (σ : ℕ → ℕ) (holds : Meets P S σ (get_or Q k [])) → Pointed m p k σ → (chosen m 0 k ≡ true → Leads 0 k σ holds K) → (chosen m 1 k ≡ true → Leads 1 k σ holds K)
        → (y t : ℕ) → elem y (vars (get_or Q k [])) ≡ true → K y ≡ some t → Comes P S t (state S (σ y))
    all-lead zero K h σ holds asked first second y t e q = (begins.first σ holds).0 asked y t e (sym (h y) ∙ q)
    all-lead (suc k) K h σ holds asked first second y t e q = ⊎_elim (λ z. cell 0 z (λ c. first c t)) (λ z. cell 1 z (λ c. second c t)) (carried-only m wf y (later k K h y t e q))
      where
        cell : (v : ℕ) → y ≡ carried_at m v → (chosen m v (suc k) ≡ true → elem (carried_at m v) (vars (get_or Q (suc k) [])) ≡ true → K (carried_at m v) ≡ some t → Comes P S t (state S (σ (carried_at m v)))) → Comes P S t (state S (σ y))
        cell v z f =
            let there = subst (λ (i : ℕ). K i ≡ some t) z q in
            subst (λ (i : ℕ). Comes P S t (state S (σ i))) (sym z) (f (met-already v k t K h there) (subst (λ (i : ℕ). elem i (vars (get_or Q (suc k) [])) ≡ true) z e) there)

    -- what is asked besides, where they all can come
    all_asked : (k : ℕ) (K : Stand) → Level P Q S from k K → (σ : ℕ → ℕ) → Meets P S σ (get_or Q k []) → ((y t : ℕ) → elem y (vars (get_or Q k [])) ≡ true → K y ≡ some t → Comes P S t (state S (σ y))) → Pointed m p k σ
    all_asked zero K h σ holds lead = (begins.first σ holds).1 (λ y t e q. lead y t e (h y ∙ q))
    all_asked (suc k) K h σ holds lead = tt

    -- SOUND: for a pair of level k there is a stand of level k with the walkers there
    sound : (k : ℕ) → k ≤ m.stagecount → (e f : ℕ) → e < limit.listed → f < limit.listed → pair_at l.rows k e f ≡ true → (K : Stand) × Level P Q S from k K × Both k K e f
    sound zero h e f g i q = let z = (filled.begins e f g i).0 q in (from, (λ y. refl), (z.0, z.1))
    sound (suc k) h e f g i q =
        let z = ((filled.stages k (omega arith)).pairs e f g i).0 q in
        let b = z.0 in
        let σ = z.1.0 in
        let r = sound k (omega arith) b.0 b.1 b.2 b.3 b.4 in
        let holds = met σ (get_or Q k []) z.1.1 in
        let one = goes 0 k σ holds r.0 b.0 e g r.2.0 b.5 z.1.2 in
        let two = goes 1 k σ holds r.0 b.1 f i r.2.1 b.6 z.1.3 in
        (stood Q S (get_or Q k []) σ r.0, (r.0, r.1, (σ, holds, all-lead k r.0 r.1 σ holds z.1.4 one.0 two.0, λ y. refl)), (one.1, two.1))

    -- COMPLETE: for a stand of level k there is the pair of its walkers' slots
    complete : (k : ℕ) → k ≤ m.stagecount → (K : Stand) → Level P Q S from k K → (e f : ℕ) × (e < limit.listed) × (f < limit.listed) × (pair_at l.rows k e f ≡ true) × Both k K e f
    complete zero h K q = (0, 0, omega arith, omega arith, (filled.begins 0 0 (omega arith) (omega arith)).1 (refl, refl), (refl, refl))
    complete (suc k) h K q =
        let r = complete k (omega arith) q.0 q.1 in
        let σ = q.2.0 in
        let holds = q.2.1 in
        let one = comes 0 k σ holds q.0 r.0 r.2 r.5.0 (λ t e y. q.2.2 (carried_at m 0) t e y) in
        let two = comes 1 k σ holds q.0 r.1 r.3 r.5.1 (λ t e y. q.2.2 (carried_at m 1) t e y) in (
          one.0,
          two.0,
          one.1,
          two.1,
          ((filled.stages k (omega arith)).pairs one.0 two.0 one.1 two.1).1 ((r.0, r.1, r.2, r.3, r.4, one.2, two.2), (σ, shown σ (get_or Q k []) holds, one.3, two.3, all_asked k q.0 q.1 σ holds q.2.2)),
          (
            subst (λ (o : Option ℕ). Sits S (chosen m 0 (suc k)) o one.0) (sym (q.2.3 (carried_at m 0))) one.4,
            subst (λ (o : Option ℕ). Sits S (chosen m 1 (suc k)) o two.0) (sym (q.2.3 (carried_at m 1))) two.4,
          ),
        )

    -- THE LAST LEVEL has a pair exactly if some stand passes every stage
    passable-law : Ends ↔ Passable P Q S from
    passable-law = (
      λ q. let r = sound m.stagecount (omega arith) q.0 q.1 q.2 q.3 q.4 in (r.0, subst (λ (k : ℕ). Level P Q S from k r.0) (sym (stages m wf)) r.1),
      λ q. let r = complete m.stagecount (omega arith) q.0 (subst (λ (k : ℕ). Level P Q S from k q.0) (stages m wf) q.1) in (r.0, r.1, r.2, r.3, r.4),
    )

  -- THE QUESTION, with nothing asked besides: in runs of every length it is reached exactly if the last level has a pair
  nobody-begins : p ≡ None → Begins nobody
  nobody-begins q = record { first = λ σ h. ((λ a y t e z. no_none z), λ a. rw q tt); stands = λ y t z. no_none z }

  -- an object of state t for the first variable of stage 1
  module _ (t : ℕ) (among : List ℕ) (asked : p ≡ Some among) (points : Points P S t among) (some-variable : 0 < (stage_at m 0).variables) where
    abbrev first : ℕ
    first = first_variable m

    stands-there : elem first (vars (get_or Q 0 [])) ≡ true
    stands-there = first-stands m wf some-variable

    only-first : (y u : ℕ) → follows first t y ≡ some u → (y ≡ first) × (u ≡ t)
    only-first y u = ⊎_elim (λ (z : eqb y first ≡ true). rw z (λ q. (eqb-true y first z, sym (some_same t u q)))) (λ (z : eqb y first ≡ false). rw z (λ q. no_none q)) (cases_Bool (eqb y first))

    object-begins : Begins (follows first t)
    object-begins = record {
      first = λ σ h. let at = points.slots (σ first) (small (σ first) (h.0 first stands-there)) in (
        λ a y u e q. let z = only-first y u q in subst (λ (i : ℕ). Comes P S u (state S (σ i))) (sym z.0) (subst (λ (i : ℕ). Comes P S i (state S (σ first))) (sym z.1) (at.0 (subst (λ (o : std.Option (List ℕ)). IfSome o (λ r. bit_at r (σ first) ≡ true)) asked a)).1),
        λ a. subst (λ (o : std.Option (List ℕ)). IfSome o (λ r. bit_at r (σ first) ≡ true)) (sym asked) (at.1 (h.0 first stands-there, a first t stands-there (rw (eq-eqb first first refl)))),
      );
      stands = λ y u q. subst (λ (i : ℕ). elem i (vars (get_or Q 0 [])) ≡ true) (sym (only-first y u q).0) stands-there;
    }

  module _ (whole : Whole (program_of m) (row s)) (found : Discovered (program_of m) s) where
    pub verdict : p ≡ None → Ends ↔ Reached (program_of m) (question_of m)
    verdict plain =
        let q = verdicts.verdict P wf.safe Q S (by s) (from s) found wf.safely whole in
        let law = passable-law nobody (nobody-begins plain) in
        ((λ r. q.1 (law.0 r)), λ r. law.1 (q.0 r))

    -- THE SAME FROM WHERE PLACES STAND that were kept so far: with the object o, of state t, for the first variable of stage 1
    pub verdict-from : (t : ℕ) (among : List ℕ) → p ≡ Some among → Points (program_of m) (row s) t among → 0 < (stage_at m 0).variables
        → (ps : List Place) (u : Session) → building.Leads (program_of m) (question_of m) (start []) ps u → (o : ℕ) → o < length u.db → state u.db o ≡ t → Ends ↔ ReachedFrom (program_of m) (question_of m) u.db (first_variable m) o
    verdict-from t among asked points one ps u lead o there same =
        let q = verdicts.verdict-after P wf.safe Q S (by s) (from s) found wf.safely whole ps u lead (first_variable m) o there in
        let law = passable-law (follows (first_variable m) (state u.db o)) (subst (λ (a : ℕ). Begins (follows (first_variable m) a)) (sym same) (object-begins t among asked points one)) in
        ((λ r. q.1 (law.0 r)), λ r. law.1 (q.0 r))
