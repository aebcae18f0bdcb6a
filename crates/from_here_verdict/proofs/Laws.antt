-- What the places, the search and the written run give of the answer.
use mathlib.Core.Path.{◌≡◌, refl, sym, ap, ◌∙◌, subst}
use mathlib.Core.Logic.{◌↔◌, inl, inr}
use mathlib.Core.Bool.{true, false, false≢true}
use mathlib.Core.List.{List, [], ◌∷◌, ◌++◌, map}
use mathlib.Core.Option.{some, some-injective}
use Rattle.std.specs.Prelude.{Some}
use Prim.Native.Nat.{ℕ, zero, suc, ◌-◌, ◌≤◌, ◌<◌}
use native.Mathlib.Omega.{arith}
use lib.ListN.{length, take, drop, get_or, length-map}
use lib.Seq.{take_at, drop_at, length-take-le, get_or-take}
use Rattle.limits.specs.Limits as limit
use Rattle.semantics.specs.Models.{Program, Question, names}
use Rattle.semantics.specs.Facts.{Database, state}
use Rattle.semantics.specs.Runs as runs
use Rattle.semantics.specs.Runs.{meet, start, after}
use Rattle.semantics.specs.Tables.{seat}
use Rattle.semantics.specs.Building as building
use Rattle.semantics.specs.Walkers.{ReachedFrom}
use Rattle.semantics.proofs.Tools.{seat-ok}
use Rattle.model.specs.declared.Model.{Model}
use Rattle.model.specs.declared.Place.{Place}
use Rattle.model.specs.Places.{number_of, placed, stands_for, place_of}
use Rattle.model.specs.Records.{up_from, number_in, program_of, question_of, stage_at}
use Rattle.model.specs.WellFormed.{WellFormed}
use Rattle.model.proofs.Accepted.{stages, stage-here, stage-names}
use Rattle.facts_bits.specs.Bits.{in_row}
use Rattle.replay_session.specs.declared.Session.{Session}
use Rattle.replay_session.specs.Sessions.{state_in}
use Rattle.replay_session.specs.Records.{session_of}
use Rattle.replay_runs.specs.Endings.{Leads, Stopped}
use Rattle.search_states.specs.States.{row}
use Rattle.search_states.proofs.Laws.{length-row}
use Rattle.search_states.proofs.Seats.{seat-in}
use Rattle.search_levels.specs.Levels.{first_variable}
use Rattle.search_levels.proofs.Targets.{first-stands}
use Rattle.search.specs.declared.Found.{Found}
use Rattle.search.specs.Search.{SearchedFrom}
use Rattle.witness_table.specs.Runs.{numbers}
use Rattle.witness_meetings.specs.Meetings.{Seating}
use Rattle.witness_walk.specs.Walk.{Recorded, Sits}
use Rattle.witness_walk.proofs.Laws.{came_from, came-besides}
use Rattle.witness.proofs.Laws.{last-number}
use Rattle.witness_from.specs.From as witness
use Rattle.witness_from.specs.From.{Openable}
use Rattle.analyzer_verdict.specs.declared.Analysis.{Analysis}
use Rattle.analyzer_verdict.proofs.Laws.{parts}
use Rattle.from_here_verdict.specs.From.{ShownFrom, Refuses, Asked, Put}
use Rattle.from_here_verdict.specs.Standing.{Ready, there, Told}

-- WHERE PLACES LEAD: to one state, by the places that the numbers stand for
pub leads-once : (P : Program) (Q : Question) (s t u : runs.Session) (ns : List ℕ) (k : ℕ) → Leads P Q s ns k t → Leads P Q s ns k u → t ≡ u
leads-once P Q s t u ns zero g h = g ∙ sym h
leads-once P Q s t u [] (suc k) g h = absurd g
leads-once P Q s t u (n ∷ ns) (suc k) (p, e, l, g) (q, d, m, h) =
    let same : q ≡ p = some-injective q p (sym d ∙ e) in
    leads-once P Q (after P Q s p) t u ns k g (subst (λ (x : runs.Place). Leads P Q (after P Q s x) ns k u) same h)

leads-places : (P : Program) (Q : Question) (s t : runs.Session) (ns : List ℕ) (k : ℕ) → Leads P Q s ns k t → (ps : List runs.Place) × building.Leads P Q s ps t
leads-places P Q s t ns zero h = ([], sym h)
leads-places P Q s t [] (suc k) h = absurd h
leads-places P Q s t (n ∷ ns) (suc k) (p, e, l, h) = let r = leads-places P Q (after P Q s p) t ns k h in (p ∷ r.0, (l, r.1))

-- THE VARIABLES OF STAGE 1
module _ (m : Model) (w : WellFormed m) where
  variables : names (get_or (question_of m) 0 []) ≡ map (number_in (stage_at m 0)) (up_from 0 (stage_at m 0).variables)
  variables = ap names (stage-here m w 0 w.one) ∙ stage-names m w 0 w.one

  no-variable : (stage_at m 0).variables ≡ 0 → names (get_or (question_of m) 0 []) ≡ []
  no-variable e = variables ∙ ap (λ (n : ℕ). map (number_in (stage_at m 0)) (up_from 0 n)) e

  first_of : (n : ℕ) → 0 < n → (xs : List ℕ) × (map (number_in (stage_at m 0)) (up_from 0 n) ≡ first_variable m ∷ xs)
  first_of zero l = absurd (omega arith)
  first_of (suc n) l = (map (number_in (stage_at m 0)) (up_from 1 n), refl)

  first-variable : 0 < (stage_at m 0).variables → (xs : List ℕ) × (names (get_or (question_of m) 0 []) ≡ first_variable m ∷ xs)
  first-variable l = let r = first_of (stage_at m 0).variables l in (r.0, variables ∙ r.1)

-- THE DATABASE to which places lead
module _ (m : Model) (ns : List ℕ) (s : Session) (h : Stopped m ns (length ns) s) where
  pub there-long : length (there m s) ≡ s.objects
  there-long = length-take-le s.objects s.states (let a = h.fits.objects in let b = h.long in omega arith)

  there-state : (o : ℕ) → o < s.objects → state (there m s) o ≡ state_in s o
  there-state o l = get_or-take s.objects s.states o 0 l

-- WHAT THE SEARCH SAYS of the object
module _ (m : Model) (s : Session) (o : ℕ) (h : Ready m s o) (w : List ℕ) (r : Found) (f : SearchedFrom m (state_in s o) w r) where
  verdict : (r.reached ≡ true) ↔ ReachedFrom (program_of m) (question_of m) (there m s) (first_variable m) o
  verdict =
      let l = leads-places (program_of m) (question_of m) (start []) (session_of m s) h.places (length h.places) h.stopped.leads in
      f.verdict l.0 (session_of m s) l.1 o (let a = h.created in let b = there-long m h.places s h.stopped in omega arith) (there-state m h.places s h.stopped o h.created)

  pub reached : r.reached ≡ true → ReachedFrom (program_of m) (question_of m) (there m s) (first_variable m) o
  reached = verdict.0

  pub unreached : r.reached ≡ false → ReachedFrom (program_of m) (question_of m) (there m s) (first_variable m) o → ⊥
  unreached e h = false≢true (sym e ∙ verdict.1 h)

  -- WHAT IT RECORDED
  pub recorded : Recorded m w r.explored.states r.levels.rows r.explored.moves.table r.explored.moves.steps r.explored.moves.ways
  recorded =
      let e = f.explored in
      record {
        known = record { model = h.model; proper = e.proper; found = e.found; agree = e.agree; exact = e.exact };
        mapped = record { whole = e.whole; moves = e.moves.table; single = e.moves.steps };
        comes = e.moves.ways;
        asked = Some f.asked;
        levels = f.levels;
      }

  -- the slot of the object's state
  abbrev slot : ℕ
  slot = seat (state_in s o) (row r.explored.states)

  -- with each pair of level 1 stage 1 holds for a slot to which the object can come
  came : (e g : ℕ) → Sits r.levels.rows 1 e g → (σ : ℕ → ℕ) × Seating m w r.explored.states 0 e g σ × (slot < r.explored.states.count) × (in_row r.explored.moves.ways slot (σ (first_variable m)) ≡ true)
  unfolding recorded
  came e g sits =
      let c = came-besides m w r.explored.states r.levels.rows r.explored.moves.table r.explored.moves.steps r.explored.moves.ways recorded 0 e g h.model.one sits in
      let l = c.1.0.0 (first_variable m) (first-stands m h.model h.variable) in
      let z = (f.aims.slots (c.0 (first_variable m)) (omega (arith, l, length-row r.explored.states f.explored.proper, f.explored.proper.count))).0 c.2 in
      (c.0, c.1, z.0, z.1)

  pub points : Openable m w r.explored.states r.levels.rows r.explored.moves.ways slot
  points e g sits = let c = came e g sits in (c.0, (c.1, c.3))

  -- each level is entered from level 1
  from_one : (n : ℕ) → 1 ≤ n → n ≤ m.stagecount → (e g : ℕ) → Sits r.levels.rows n e g → (u v : ℕ) × Sits r.levels.rows 1 u v
  from_one zero one l e g sits = absurd (omega arith)
  from_one (suc zero) one l e g sits = (e, g, sits)
  from_one (suc (suc k)) one l e g sits =
      let c = came_from m w r.explored.states r.levels.rows r.explored.moves.table r.explored.moves.steps r.explored.moves.ways recorded (suc k) e g (omega arith) sits in
      from_one (suc k) (omega arith) (omega arith) c.0 c.1 c.2.0

  module _ (yes : r.reached ≡ true) where
    pub sits : (e g : ℕ) × Sits r.levels.rows m.stagecount e g
    sits = let x = f.entered yes in (x.0, x.1, (x.2, x.3, x.4))

    pub slot-there : slot < r.explored.states.count
    slot-there = let x = sits in let y = from_one m.stagecount h.model.one (omega arith) x.0 x.1 x.2 in (came y.0 y.1 y.2).2

    pub slot-state : state (there m s) o ≡ state (row r.explored.states) slot
    slot-state =
        let n = length-row r.explored.states f.explored.proper in
        there-state m h.places s h.stopped o h.created ∙ sym (seat-ok (state_in s o) (row r.explored.states) (seat-in (state_in s o) (row r.explored.states) r.explored.states.count n slot-there)).1

-- THE RUN WRITTEN
module _ (m : Model) (wf : WellFormed m) (D : Database) (o : ℕ) (run run' : List ℕ) (n : ℕ) (h : witness.ShownFrom m D o run run' n) where
  -- its last place is the meeting of the last stage
  pub last-place : (1 ≤ n) × (place_of (get_or run' (n - 1) 0) ≡ some (meet m.stagecount h.last.1))
  last-place = last-number run' n h.places h.last.0 (meet m.stagecount h.last.1) h.index h.decoded h.last.2

  pub shown : (place : Place) → place ≡ placed (get_or run' (n - 1) 0) → ShownFrom (program_of m) (question_of m) D (first_variable m) o run run' n place
  shown place e =
      record {
        places = h.places;
        count = h.index;
        written = ap (take n) h.written ∙ take_at (numbers h.places) (drop n run) n long;
        decoded = h.decoded;
        rest = ap (drop n) h.written ∙ drop_at (numbers h.places) (drop n run) n long;
        plays = h.plays;
        names = h.names;
        steps = h.steps;
        fits = h.few;
        touches = h.touches;
        stays = h.stays;
        before = h.last.0;
        objects = h.last.1;
        ends = h.last.2 ∙ ap (λ (i : ℕ). h.last.0 ++ (meet i h.last.1 ∷ [])) (sym (stages m wf));
        meeting = ap stands_for e ∙ parts (get_or run' (n - 1) 0) ∙ last-place.1 ∙ ap (λ (i : ℕ). some (meet i h.last.1)) (sym (stages m wf));
        last = e;
      }
    where
      long : length (numbers h.places) ≡ n
      long = length-map h.places number_of ∙ sym h.index

-- WHAT IS ANSWERED after places that lead to s
module _ (m : Model) (w : WellFormed m) (ns : List ℕ) (s : Session) (h : Stopped m ns (length ns) s) (o : ℕ) (run : List ℕ) (a : Analysis) (run' : List ℕ) where
  pub not-created : s.objects ≤ o → Refuses run a run' 16 → Put run a run' (program_of m) (question_of m) ns o
  not-created l r = inl (
    (λ t k c.
        let e : t ≡ session_of m s = leads-once (program_of m) (question_of m) (start []) t (session_of m s) ns (length ns) k h.leads in
        let b = there-long m ns s h in let d = ap (λ (x : runs.Session). length x.db) e in absurd (omega arith)),
    r,
  )

  module _ (l : o < s.objects) where
    created : Asked run a run' (program_of m) (question_of m) (there m s) o (names (get_or (question_of m) 0 [])) → Put run a run' (program_of m) (question_of m) ns o
    created r = inr (session_of m s, h.leads, (let b = there-long m ns s h in omega arith), r)

    pub without-variable : (stage_at m 0).variables ≡ 0 → Refuses run a run' 17 → Put run a run' (program_of m) (question_of m) ns o
    without-variable e r = created (rw (no-variable m w e) r)

    module _ (some : 0 < (stage_at m 0).variables) where
      pub too_many : limit.earlier < s.objects → Refuses run a run' 18 → Put run a run' (program_of m) (question_of m) ns o
      too_many k r = created (rw (first-variable m w some).1 (inl ((let b = there-long m ns s h in omega arith), r)))

      pub told : s.objects ≤ limit.earlier → Told m s o run a run' → Put run a run' (program_of m) (question_of m) ns o
      told k r = created (rw (first-variable m w some).1 (inr ((λ z. let b = there-long m ns s h in absurd (omega arith)), r)))
