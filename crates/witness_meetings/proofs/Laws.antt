-- A choice of found states for a stage's own variables meets the stage, with the objects that are named for it.
use mathlib.Core.Path.{◌≡◌, refl, sym, ap, ◌∙◌, subst}
use mathlib.Core.Logic.{⊎_elim, ◌≢◌}
use mathlib.Core.Bool.{true, false}
use mathlib.Core.List.{List, [], ◌∷◌, map, map-map}
use mathlib.Core.Option.{Option, some}
use Prim.Native.Nat.{ℕ, zero, suc, ◌+◌, ◌≤◌, ◌<◌}
use native.Mathlib.Omega.{arith}
use borrow.Author.Tests.{eq-eqb, ne_eqb}
use lib.ListN.{set, get_or, length, take, drop, length-map}
use Rattle.std.proofs.lemmas.List.{get_or_default}
use Rattle.std.proofs.lemmas.Bool.{cases_Bool}
use Rattle.limits.specs.Limits as limit
use Rattle.semantics.specs.Models.{elem, Body, vars, names, supported, Supported}
use Rattle.semantics.specs.Facts.{In, Derived, Meets}
use Rattle.semantics.specs.Runs.{Place, meet, nobody, named}
use Rattle.semantics.specs.Tables.{Shows}
use Rattle.semantics.specs.Walkers.{but, acting}
use Rattle.semantics.proofs.Tools.{same?, clash, named-own}
use Rattle.semantics.proofs.Bodies.{holds_agree, more-facts, supported-vars}
use Rattle.model.specs.declared.Model.{Model}
use Rattle.model.specs.declared.Stage.{Stage}
use Rattle.model.specs.Records.{up_from, stage_body, stage_of, number_in, program_of, question_of, stage_at, carried_at}
use Rattle.model.specs.WellFormed.{WellFormed}
use Rattle.model.specs.Places.{number_of, Objects, Numerable}
use Rattle.model.proofs.Numbering.{length-up_from}
use Rattle.model.proofs.Renaming.{elem-of-map, elem-map, vars-renamed, supported-renamed, holds-renamed, named-renamed}
use Rattle.model.proofs.Accepted.{stage-here, stage-vars, stage-different, stage-names, stage_body_lem}
use Rattle.model.proofs.Carried.{carried-cells, carried-own, carried-differ}
use Rattle.facts_bits.specs.Bits.{in_row}
use Rattle.facts_table.specs.Table.{table_of}
use Rattle.facts_candidates.specs.declared.Choice.{Choice}
use Rattle.facts_candidates.specs.Choices.{element_of, chosen}
use Rattle.std.specs.Prelude as prelude
use Rattle.facts_find.specs.Bodies.{Fixed}
use Rattle.search_states.specs.declared.States.{States}
use Rattle.search_states.specs.States.{row}
use Rattle.search_states.proofs.Laws.{length-row}
use Rattle.model.specs.Literals.{body_of}
use Rattle.model.proofs.Bodies.{own-body}
use Rattle.facts_holds.specs.Shows.{Evaluable, Seeks}
use Rattle.facts_holds.proofs.Laws.{part-evaluable}
use Rattle.witness_table.proofs.Laws.{set-backwards}
use Rattle.witness_meetings.specs.declared.Cast.{Cast}
use Rattle.witness_meetings.specs.Meetings.{Known, Written, Names, NamesBoth, meeting, Behind, pair, Seats, gathering, Takes, Chooses, Seating, first_variable, Opens}

map_same : (f g : ℕ → ℕ) (k n : ℕ) → ((x : ℕ) → k ≤ x → x < k + n → f x ≡ g x) → map f (up_from k n) ≡ map g (up_from k n)
map_same f g k zero h = refl
map_same f g k (suc n) h = rw (h k (omega arith) (omega arith), map_same f g (suc k) n (λ x a b. h x (omega arith) (omega arith)))

objects-below : (h : ℕ → ℕ) (k n : ℕ) → ((x : ℕ) → k ≤ x → x < k + n → h x < 255) → Objects (map h (up_from k n))
objects-below h k zero b = tt
objects-below h k (suc n) b = (b k (omega arith) (omega arith), objects-below h (suc k) n (λ x a c. b x (omega arith) (omega arith)))

-- the meeting has a number
pub numerable-meeting : (k n : ℕ) (c : Choice) → k < limit.atomic → n ≤ 3 → ((x : ℕ) → x < n → chosen c x < 255) → Numerable (meeting k n c)
numerable-meeting k n c h few b = (omega arith, omega (arith, length-map (up_from 0 n) (chosen c), length-up_from 0 n), objects-below (chosen c) 0 n (λ x p q. b x (omega arith)))

-- what is written is good in another way too
pub written_as : (G H : List Place → Type 0) → ((ps : List Place) → G ps → H ps) → (most : ℕ) (run run' : List ℕ) (at at' : ℕ) → Written G most run at run' at' → Written H most run at run' at'
written_as G H so most run run' at at' h = record { places = h.places; good = so h.places h.good; few = h.few; numerable = h.numerable; written = h.written; index = h.index }

-- the carried variable that is read from a cell
pub carried-read : (m : Model) → WellFormed m → (v : ℕ) → v < limit.carried → get_or m.carried v 0 ≡ carried_at m v
carried-read m wf v l = get_or_default m.carried v 0 limit.none (omega (arith, carried-cells m wf))

-- STAGE k of a well-formed model, with names of its own for its variables
module _ (m : Model) (wf : WellFormed m) (k : ℕ) (here : k < m.stagecount) where
  abbrev st : Stage
  st = stage_at m k

  abbrev body : Body
  body = stage_body m.literals (stage_at m k)

  abbrev asked : Body
  asked = stage_of m.literals (stage_at m k)

  in-vars : (y : ℕ) → elem y (vars asked) ≡ true → (x : ℕ) × (x < st.variables) × (y ≡ number_in st x)
  in-vars y e =
      let t = elem-of-map (number_in st) y (vars body) (rw vars-renamed at e) in
      (t.0, (stage-vars m wf k here t.0).0 t.1, t.2)

  vars-in : (x : ℕ) → x < st.variables → elem (number_in st x) (vars asked) ≡ true
  vars-in x l = rw vars-renamed (elem-map (number_in st) x (vars body) ((stage-vars m wf k here x).1 l))

  -- whether the stage has a variable of the `ask` line
  pub has-variable : (v x : ℕ) → x < st.variables → number_in st x ≡ v → elem v (vars (get_or (question_of m) k [])) ≡ true
  has-variable v x l e = rw (stage-here m wf k here) (subst (λ (y : ℕ). elem y (vars asked) ≡ true) e (vars-in x l))

  variable-in : (v : ℕ) → elem v (vars (get_or (question_of m) k [])) ≡ true → (x : ℕ) × (x < st.variables) × (v ≡ number_in st x)
  variable-in v e = in-vars v (rw (stage-here m wf k here) at e)

  pub not-variable : (v : ℕ) → ((x : ℕ) → x < st.variables → number_in st x ≢ v) → elem v (vars (get_or (question_of m) k [])) ≡ false
  not-variable v h = ⊎_elim (λ e. let t = variable-in v e in absurd (h t.0 t.1 (sym t.2))) (λ e. e) (cases_Bool (elem v (vars (get_or (question_of m) k []))))

  -- a stage's numbers
  pub few-variables : st.variables ≤ 3
  few-variables = (wf.stage k here).part.few

  -- the stage's body can be evaluated
  stage-safe : Supported (vars body) body
  stage-safe x e =
      let t = elem-of-map (number_in st) (number_in st x) (supported body)
      (rw supported-renamed at (subst (λ (b : Body). Supported (vars b) b) (stage-here m wf k here) (wf.safely k) (number_in st x) (vars-in x ((stage-vars m wf k here x).0 e)))) in
      subst (λ (y : ℕ). elem y (supported body) ≡ true) (sym (stage-different m wf k here x t.0 e (supported-vars t.0 body t.1) t.2)) t.1

  -- the body by itself
  abbrev codes : List ℕ
  codes = take st.count (drop st.first m.literals)

  pub codes-say : body_of codes (length codes) ≡ body
  codes-say = own-body (drop st.first m.literals) st.count (stage_body_lem m wf k here).within

  pub stage-evaluable : Evaluable codes st.variables
  stage-evaluable = part-evaluable (drop st.first m.literals) st.count st.variables (stage_body_lem m wf k here) stage-safe

  -- the choice for the variables of the `ask` line
  abbrev over : Choice → ℕ → ℕ
  over c = named asked (map (chosen c) (names body))

  over-own : (c : Choice) (x : ℕ) → elem x (vars body) ≡ true → over c (number_in st x) ≡ chosen c x
  over-own c x e = named-renamed (number_in st) body (stage-different m wf k here) (map (chosen c) (names body)) x e ∙ named-own (chosen c) body x e

  over-at : (c : Choice) → Chooses st c (over c)
  over-at c x l = over-own c x ((stage-vars m wf k here x).1 l)

  -- the objects that a meeting names
  names-map : (f : ℕ → ℕ) → map f (names (get_or (question_of m) k [])) ≡ map (λ x. f (number_in st x)) (up_from 0 st.variables)
  names-map f = rw (stage-here m wf k here, stage-names m wf k here) (map-map f (number_in st) (up_from 0 st.variables))

  -- A VARIABLE v OF THE STAGE stands for element e in r, and the others stand as in c
  module _ (v e : ℕ) (c r : Choice) (h : Names st v e c r) where
    names-own : (x : ℕ) → x < st.variables → number_in st x ≡ v → element_of r x ≡ prelude.Some e
    names-own x l q = h x l ∙ rw (eq-eqb (number_in st x) v q)

    names-other : (x : ℕ) → x < st.variables → number_in st x ≢ v → element_of r x ≡ element_of c x
    names-other x l q = h x l ∙ rw (ne_eqb (number_in st x) v q)

    own-chosen : (x : ℕ) → x < st.variables → number_in st x ≡ v → chosen r x ≡ e
    own-chosen x l q = ap (λ (o : prelude.Option ℕ). prelude.unwrap_or o 255) (names-own x l q)

    other-chosen : (x : ℕ) → x < st.variables → number_in st x ≢ v → chosen r x ≡ chosen c x
    other-chosen x l q = ap (λ (o : prelude.Option ℕ). prelude.unwrap_or o 255) (names-other x l q)

    -- fixed elements
    names-fixed : (σ : ℕ → ℕ) → (elem v (vars (get_or (question_of m) k [])) ≡ true → σ v ≡ e) → Fixed st.variables c (λ x. σ (number_in st x)) → Fixed st.variables r (λ x. σ (number_in st x))
    names-fixed σ own others x l i n = ⊎_elim
        (λ q. ap σ q ∙ own (has-variable v x l q) ∙ ap (λ (o : prelude.Option ℕ). prelude.unwrap_or o 255) (sym (names-own x l q) ∙ n))
        (λ q. others x l i (sym (names-other x l q) ∙ n)) (same? (number_in st x) v)

    -- objects
    pub names-acting : (g : ℕ → ℕ) (w : ℕ → Option ℕ) (τ : ℕ → ℕ) → ((x : ℕ) → x < st.variables → acting g w τ (number_in st x) ≡ chosen c x)
        → (x : ℕ) → x < st.variables → acting g (but w v (some e)) τ (number_in st x) ≡ chosen r x
    names-acting g w τ others x l = ⊎_elim (λ q. rw (eq-eqb (number_in st x) v q) (sym (own-chosen x l q))) (λ q. rw (ne_eqb (number_in st x) v q) (others x l ∙ sym (other-chosen x l q))) (same? (number_in st x) v)

    pub names-below : (n : ℕ) → e < n → ((x : ℕ) → x < st.variables → chosen c x < n) → (x : ℕ) → x < st.variables → chosen r x < n
    names-below n own others x l = ⊎_elim (λ q. omega (arith, own-chosen x l q)) (λ q. omega (arith, other-chosen x l q, others x l)) (same? (number_in st x) v)

  -- the two carried variables are different
  carried-apart : elem (carried_at m 0) (vars (get_or (question_of m) k [])) ≡ true → carried_at m 0 ≢ carried_at m 1
  carried-apart h q = absurd (let z = carried-differ m wf 0 1 (omega arith) (carried-own m wf 0 k h) q in omega arith)

  -- elements for both carried variables
  module _ (e f : ℕ) (c r : Choice) (h : NamesBoth m k e f c r) where
    both_first : elem (carried_at m 0) (vars (get_or (question_of m) k [])) ≡ true → (x : ℕ) → x < st.variables → number_in st x ≡ carried_at m 0 → element_of r x ≡ prelude.Some e
    both_first here-v x l q = names-other (carried_at m 1) f h.0 r h.2 x l (λ z. carried-apart here-v (sym q ∙ z)) ∙ names-own (carried_at m 0) e c h.0 h.1 x l q

    both-second : (x : ℕ) → x < st.variables → number_in st x ≡ carried_at m 1 → element_of r x ≡ prelude.Some f
    both-second = names-own (carried_at m 1) f h.0 r h.2

    both-neither : (x : ℕ) → x < st.variables → number_in st x ≢ carried_at m 0 → number_in st x ≢ carried_at m 1 → element_of r x ≡ element_of c x
    both-neither x l n o = names-other (carried_at m 1) f h.0 r h.2 x l o ∙ names-other (carried_at m 0) e c h.0 h.1 x l n

    both-fixed : (σ : ℕ → ℕ) → Seats m k σ e f → Fixed st.variables c (λ x. σ (number_in st x)) → Fixed st.variables r (λ x. σ (number_in st x))
    both-fixed σ seats others = names-fixed (carried_at m 1) f h.0 r h.2 σ seats.1 (names-fixed (carried_at m 0) e c h.0 h.1 σ seats.0 others)

    pub both_below : (n : ℕ) → e < n → f < n → ((x : ℕ) → x < st.variables → chosen c x < n) → (x : ℕ) → x < st.variables → chosen r x < n
    both_below n a b others = names-below (carried_at m 1) f h.0 r h.2 n b (names-below (carried_at m 0) e c h.0 h.1 n a others)

  -- THE MEETING of the objects that are named, but the cast's for the carried variables
  module _ (cast : Cast) (objects all : Choice) (both : NamesBoth m k cast.first cast.second objects all) (small : (x : ℕ) → x < st.variables → chosen all x < 255) (w : ℕ → Option ℕ) (σ : ℕ → ℕ) (takes : Takes m cast k w σ objects) where
    abbrev object_of : ℕ → ℕ
    object_of = acting (λ o. cast.base + o) (pair m w (some cast.first) (some cast.second)) σ

    same-objects : map object_of (names (get_or (question_of m) k [])) ≡ map (chosen all) (up_from 0 st.variables)
    same-objects = names-map object_of ∙ map_same (λ x. object_of (number_in st x)) (chosen all) 0 st.variables (λ x a b. each x (omega arith))
      where
        each : (x : ℕ) → x < st.variables → object_of (number_in st x) ≡ chosen all x
        each = names-acting (carried_at m 1) cast.second both.0 all both.2 (λ o. cast.base + o) (but w (carried_at m 0) (some cast.first)) σ
            (names-acting (carried_at m 0) cast.first objects both.0 both.1 (λ o. cast.base + o) w σ takes)

    pub gathered : (run : List ℕ) (at number : ℕ) → number ≡ number_of (meeting k st.variables all) → Written (λ ps. ps ≡ gathering m cast w k σ ∷ []) 1 run at (set run at number) (at + 1)
    gathered run at number q = record {
      places = meeting k st.variables all ∷ [];
      good = ap (λ (os : List ℕ). meet (suc k) os ∷ []) (sym same-objects);
      few = omega arith;
      numerable = (numerable-meeting k st.variables all (let four = wf.stages in omega arith) few-variables small, tt);
      written = ap (set run at) q ∙ set-backwards run at (meeting k st.variables all);
      index = refl;
    }

  -- the objects of the chosen states
  pub behind-takes : (cast : Cast) (c objects : Choice) (σ : ℕ → ℕ) → Chooses st c σ → Behind st.variables cast.base c objects → Takes m cast k nobody σ objects
  behind-takes cast c objects σ chooses behind x l = ap (λ (o : ℕ). cast.base + o) (chooses x l) ∙ sym (behind x l)

module _ (m : Model) (w : List ℕ) (s : States) (known : Known m w s) (k : ℕ) (here : k < m.stagecount) where
  -- what shows the stage shows its body
  shows-body : (σ : ℕ → ℕ) → Shows (row s) (table_of w) σ (get_or (question_of m) k []) → Shows (row s) (table_of w) (λ x. σ (number_in (stage_at m k) x)) (stage_body m.literals (stage_at m k))
  shows-body σ h = (holds-renamed (number_in (stage_at m k)) (row s) (In (table_of w)) σ (stage_body m.literals (stage_at m k))).0 (rw (stage-here m known.model k here) at h)

  -- and the other way round
  body-shows : (c : Choice) → Shows (row s) (table_of w) (chosen c) (stage_body m.literals (stage_at m k)) → Shows (row s) (table_of w) (over m known.model k here c) (get_or (question_of m) k [])
  body-shows c h = rw (stage-here m known.model k here) ((holds-renamed (number_in (stage_at m k)) (row s) (In (table_of w)) (over m known.model k here c) (stage_body m.literals (stage_at m k))).1
      (holds_agree (row s) (In (table_of w)) (chosen c) (λ x. over m known.model k here c (number_in (stage_at m k) x)) (stage_body m.literals (stage_at m k)) (λ x e. sym (over-own m known.model k here c x e)) h))

  -- what shows over the states holds there
  pub shows-meets : (σ : ℕ → ℕ) → Shows (row s) (table_of w) σ (get_or (question_of m) k []) → Meets (program_of m) (row s) σ (get_or (question_of m) k [])
  shows-meets σ h = more-facts (row s) (In (table_of w)) (Derived (program_of m) (row s)) (λ r os d. (known.exact.facts r os).0 d) σ (get_or (question_of m) k []) h

  -- a variable of the stage has the slot of a state
  slot-below : (σ : ℕ → ℕ) → Shows (row s) (table_of w) σ (get_or (question_of m) k []) → (v : ℕ) → elem v (vars (get_or (question_of m) k [])) ≡ true → σ v < s.count
  slot-below σ h v e = omega (arith, h.0 v e, length-row s known.proper)

  pub chosen-below : (c : Choice) (σ : ℕ → ℕ) → Shows (row s) (table_of w) σ (get_or (question_of m) k []) → Chooses (stage_at m k) c σ → (x : ℕ) → x < (stage_at m k).variables → chosen c x < s.count
  chosen-below c σ h chooses x l = omega (arith, slot-below σ h (number_in (stage_at m k) x) (has-variable m known.model k here (number_in (stage_at m k) x) x l refl), chooses x l)

  -- A CHOICE WITH FIXED SLOTS for the carried variables, where σ has them too
  module _ (e f : ℕ) (σ : ℕ → ℕ) (seated : Seating m w s k e f σ) (others fixed : Choice) (fixes : NamesBoth m k e f others fixed) where
    -- a variable of the stage that is fixed to a slot has it in each choice that is found
    fixed-seat : (v e : ℕ) → ((x : ℕ) → x < (stage_at m k).variables → number_in (stage_at m k) x ≡ v → element_of fixed x ≡ prelude.Some e)
        → (c : Choice) → Fixed (stage_at m k).variables fixed (chosen c) → elem v (vars (get_or (question_of m) k [])) ≡ true → over m known.model k here c v ≡ e
    fixed-seat v e own c found here-v =
        let x = variable-in m known.model k here v here-v in
        ap (over m known.model k here c) x.2 ∙ over-at m known.model k here c x.0 x.1 ∙ found x.0 x.1 e (own x.0 x.1 (sym x.2))

    found-seating : (c : Choice) → Shows (row s) (table_of w) (chosen c) (stage_body m.literals (stage_at m k)) → Fixed (stage_at m k).variables fixed (chosen c) → Seating m w s k e f (over m known.model k here c)
    found-seating c shows found = (
      body-shows c shows,
      (
        (λ h. fixed-seat (carried_at m 0) e (both_first m known.model k here e f others fixed fixes h) c found h),
        fixed-seat (carried_at m 1) f (both-second m known.model k here e f others fixed fixes) c found,
      ),
    )

    -- it is found: no other variable is fixed
    pub choose-found : (c : Choice) → Seeks (row s) w (stage_body m.literals (stage_at m k)) (stage_at m k).variables fixed (prelude.Some c) → (τ : ℕ → ℕ) × Seating m w s k e f τ × Chooses (stage_at m k) c τ
    choose-found c h = (over m known.model k here c, found-seating c h.0 h.1, over-at m known.model k here c)

    choose-none : ((x : ℕ) → element_of others x ≡ prelude.None) → Seeks (row s) w (stage_body m.literals (stage_at m k)) (stage_at m k).variables fixed prelude.None → ⊥
    choose-none free h = h (λ x. σ (number_in (stage_at m k) x)) (shows-body σ seated.0) (both-fixed m known.model k here e f others fixed fixes σ seated.1 (λ x l i n. clash (ap prelude.is_some n) (ap prelude.is_some (free x))))

    pub choose-some : ((x : ℕ) → element_of others x ≡ prelude.None) → (r : prelude.Option Choice) → Seeks (row s) w (stage_body m.literals (stage_at m k)) (stage_at m k).variables fixed r → prelude.IsSome r
    choose-some free prelude.None h = absurd (choose-none free h)
    choose-some free (prelude.Some c) h = refl

-- STAGE 1 WITH ITS FIRST VARIABLE in a slot of row j
module _ (m : Model) (w : List ℕ) (s : States) (known : Known m w s) (some-variable : 0 < (stage_at m 0).variables) (rows : List ℕ) (j e f : ℕ) where
  first-stands : elem (first_variable m) (vars (get_or (question_of m) 0 [])) ≡ true
  first-stands = has-variable m known.model 0 known.model.one (first_variable m) 0 some-variable refl

  pub first_below : (σ : ℕ → ℕ) → Opens m w s rows j e f σ → σ (first_variable m) < s.count
  first_below σ opens = slot-below m w s known 0 known.model.one σ opens.0.0 (first_variable m) first-stands

  module _ (u : ℕ) (free one fixed : Choice) (none : (x : ℕ) → element_of free x ≡ prelude.None) (names : Names (stage_at m 0) (first_variable m) u free one) (fixes : NamesBoth m 0 e f one fixed) where
    pub attempt-none : (σ : ℕ → ℕ) → Opens m w s rows j e f σ → σ (first_variable m) ≡ u → Seeks (row s) w (stage_body m.literals (stage_at m 0)) (stage_at m 0).variables fixed prelude.None → ⊥
    attempt-none σ opens is h = h (λ x. σ (number_in (stage_at m 0) x)) (shows-body m w s known 0 known.model.one σ opens.0.0)
        (both-fixed m known.model 0 known.model.one e f one fixed fixes σ opens.0.1
        (names-fixed m known.model 0 known.model.one (first_variable m) u free one names σ (λ h. is) (λ x l i n. clash (ap prelude.is_some n) (ap prelude.is_some (none x)))))

    pub attempt-found : (σ : ℕ → ℕ) → Opens m w s rows j e f σ → in_row rows j u ≡ true → (c : Choice) → Seeks (row s) w (stage_body m.literals (stage_at m 0)) (stage_at m 0).variables fixed (prelude.Some c)
        → (τ : ℕ → ℕ) × Opens m w s rows j e f τ × Chooses (stage_at m 0) c τ
    attempt-found σ opens among c h = (
      over m known.model 0 known.model.one c,
      (
        found-seating m w s known 0 known.model.one e f σ opens.0 one fixed fixes c h.0 h.1,
        rw (over-at m known.model 0 known.model.one c 0 some-variable) slot,
      ),
      over-at m known.model 0 known.model.one c,
    )
      where
        -- the slot that was fixed for it
        fixed-to : (t : ℕ) → element_of fixed 0 ≡ prelude.Some t → in_row rows j t ≡ true → in_row rows j (chosen c 0) ≡ true
        fixed-to t q r = rw (h.1 0 some-variable t q) r

        carried : (t : ℕ) → element_of fixed 0 ≡ prelude.Some t → σ (first_variable m) ≡ t → in_row rows j (chosen c 0) ≡ true
        carried t q is = fixed-to t q (rw (← is) opens.1)

        slot : in_row rows j (chosen c 0) ≡ true
        slot = ⊎_elim
            (λ q. carried f (both-second m known.model 0 known.model.one e f one fixed fixes 0 some-variable q) (ap σ q ∙ opens.0.1.1 (subst (λ (v : ℕ). elem v (vars (get_or (question_of m) 0 [])) ≡ true) q first-stands)))
            (λ o. ⊎_elim
            (λ q. let stands = subst (λ (v : ℕ). elem v (vars (get_or (question_of m) 0 [])) ≡ true) q first-stands in carried e (both_first m known.model 0 known.model.one e f one fixed fixes stands 0 some-variable q) (ap σ q ∙ opens.0.1.0 stands))
            (λ n. fixed-to u (both-neither m known.model 0 known.model.one e f one fixed fixes 0 some-variable n o ∙ names-own m known.model 0 known.model.one (first_variable m) u free one names 0 some-variable refl) among) (same? (first_variable m) (carried_at m 0))) (same? (first_variable m) (carried_at m 1))
