-- What is found when no clause adds a state is all, and the last level gives the verdict.
use mathlib.Core.Path.{◌≡◌, refl, sym, ap, ◌∙◌, subst}
use mathlib.Core.Logic.{inl, inr, ⊎_elim, ◌↔◌}
use mathlib.Core.Bool.{Bool, true, false, false≢true}
use mathlib.Core.List.{List}
use Prim.Native.Nat.{ℕ, ◌<◌}
use Rattle.limits.specs.Limits as limit
use Rattle.semantics.specs.Labels.{relabel}
use Rattle.semantics.specs.Models.{Body, Line, rule, new, next, other}
use Rattle.semantics.specs.Facts.{state, In, Derived, Meets}
use Rattle.semantics.specs.Steps.{Reachable, MoreThan}
use Rattle.semantics.specs.Questions.{Verdict}
use Rattle.semantics.specs.Tables.{Shows, From, Empties}
use Rattle.semantics.specs.Walkers.{Whole}
use Rattle.semantics.proofs.Bodies.{more-facts}
use Rattle.semantics.proofs.WalkersMoves.{states}
use Rattle.semantics.proofs.Crowded.{roomy}
use Rattle.model.specs.declared.Model.{Model}
use Rattle.model.specs.Records.{clause_line, program_of, question_of, clause_at, stage_at}
use Rattle.model.specs.WellFormed.{WellFormed}
use Rattle.model.proofs.Lines.{every-line}
use Rattle.facts_table.specs.Table.{table_of}
use Rattle.search_states.specs.declared.States.{States}
use Rattle.search_states.specs.States.{row, Known, by, from}
use Rattle.search_states.proofs.Laws.{length-row, row-full}
use Rattle.search_clauses.specs.Reach.{Lists}
use Rattle.search_reachable.specs.Reachable.{Overflows, Reaches}
use Rattle.search_reachable.proofs.Ends.{too-many}
use Rattle.search_ways.specs.Moves.{Exactly}
use Rattle.search_ways.proofs.Laws.{whole}
use Rattle.std.specs.Prelude.{Option, Some, None, Result, Ok, Err, MatchResult}
use Rattle.std.specs.Result.{result_ok}
use Rattle.search_levels.specs.Levels.{Aims, Filled}
use Rattle.search_levels.proofs.Targets.{aims-points}
use Rattle.search_levels.proofs.Laws as levels
use Rattle.search.specs.declared.Explored.{Explored}
use Rattle.search.specs.declared.Found.{Found}
use Rattle.search.specs.Search.{Surveyed, Entered, Judged, Searched, SearchedFrom}

module _ (m : Model) (wf : WellFormed m) (w : List ℕ) (s : States) (reaches : Reaches m w s) where
  pub exactly : Exactly m w s
  exactly = record { proper = reaches.proper; agree = reaches.agree; shown = reaches.exact.states; facts = reaches.exact.facts; marks = reaches.marks }

  -- what holds over the states shows with the facts of the work area
  shown : (σ : ℕ → ℕ) (b : Body) → Meets (program_of m) (row s) σ b → Shows (row s) (table_of w) σ b
  shown σ b h = more-facts (row s) (Derived (program_of m) (row s)) (In (table_of w)) (λ q os e. (reaches.exact.facts q os).1 e) σ b h

  -- the empty state is not in the row
  known-empty : Known s 0 → s.empty ≡ true
  known-empty k = ⊎_elim (λ z. z.1) (λ e. absurd (row-full s reaches.proper e)) k

  -- a line that gives the empty state was taken, so that it is noted
  noted : (L : Line) → Lists L s w → (p : ℕ) → From (program_of m) (row s) 0 p L → s.empty ≡ true
  noted (rule r xs b) h p f = absurd f
  noted (new t b) h p f = known-empty (subst (Known s) (sym f.0) (h f.1.0 (shown f.1.0 b f.1.1)))
  noted (next x plus minus b) h p f =
      known-empty (subst (Known s) (ap (λ (o : ℕ). relabel (state (row s) o) plus minus) f.2.1 ∙ sym f.1) (h f.2.0 (shown f.2.0 b f.2.2)))
  noted other h p f = absurd f

  -- no line adds a state
  pub no_more : Whole (program_of m) (row s)
  no_more = whole m w s exactly reaches.listed

  -- no more are reachable than there is room for
  pub not-many : MoreThan limit.atomic (program_of m) → ⊥
  not-many = roomy (program_of m) wf.safe (row s) (by s) (from s) reaches.found no_more limit.atomic (rw (length-row s reaches.proper) reaches.proper.count)

  emptied : Empties (program_of m) (row s) → s.empty ≡ true
  emptied (ℓ, p, f) = every-line m (λ (L : Line). (p : ℕ) → From (program_of m) (row s) 0 p L → s.empty ≡ true) (λ p f. absurd f)
      (λ i h. noted (clause_line m.literals (clause_at m i)) (reaches.listed i h)) ℓ p f

  -- EXACTLY THE REACHABLE STATES, in runs of every length
  pub reachable : (t : ℕ) → Reachable (program_of m) t ↔ Known s t
  reachable t =
      let q = states (program_of m) wf.safe (row s) no_more (by s) (from s) reaches.found t in
      ((λ r. ⊎_elim (λ e. inl (e.0, emptied e.1)) (λ e. inr e) (q.0 r)), λ k. q.1 (⊎_elim (λ e. inl (e.0, reaches.empty e.1)) (λ e. inr e) k))

-- WHERE NO STATES ARE GIVEN there are too many
pub many : (m : Model) → WellFormed m → (w : List ℕ) (r : Result States States) → None ≡ result_ok r → MatchResult r (Reaches m w) (Overflows m w) → MoreThan limit.atomic (program_of m)
many m wf w (Ok s) q h = cc
many m wf w (Err s) q h = too-many m wf w s h

-- WHAT IS EXPLORED is what the levels rest on
pub surveyed-exactly : (m : Model) (w : List ℕ) (e : Explored) → Surveyed m w e → Exactly m w e.states
surveyed-exactly m w e h = record { proper = h.proper; agree = h.agree; shown = h.exact.states; facts = h.exact.facts; marks = h.marks }

-- THE VERDICT over the explored states, by the levels
module _ (m : Model) (wf : WellFormed m) (w : List ℕ) (e : Explored) (surveyed : Surveyed m w e) (p : Option (List ℕ)) (r : Found) (judged : Judged m w e p r) where
  surveyed-found : Surveyed m w r.explored
  surveyed-found = subst (Surveyed m w) (sym judged.explored) surveyed

  filled : Filled m (row r.explored.states) w r.explored.moves.ways p r.levels
  filled = subst (λ (x : Explored). Filled m (row x.states) w x.moves.ways p r.levels) (sym judged.explored) judged.levels

  pub searched : p ≡ None → Searched m w r
  searched plain = record { explored = surveyed-found; verdict = go r.reached judged.entered; entered = judged.entered.0; levels = unasked }
    where
      unasked : Filled m (row r.explored.states) w r.explored.moves.ways None r.levels
      unasked = subst (λ (x : Option (List ℕ)). Filled m (row r.explored.states) w r.explored.moves.ways x r.levels) plain filled

      law : Entered r.levels.rows m.stagecount ↔ Verdict (program_of m) (question_of m) true
      law = levels.verdict m wf w r.explored.states (surveyed-exactly m w r.explored surveyed-found) r.explored.moves.ways surveyed-found.moves.ways None r.levels unasked surveyed-found.whole surveyed-found.found refl

      go : (b : Bool) → (b ≡ true) ↔ Entered r.levels.rows m.stagecount → Verdict (program_of m) (question_of m) b
      go true q = law.0 (q.0 refl)
      go false q = λ x. absurd (false≢true (q.1 (law.1 x)))

  -- and from a database, with an object of state s
  pub searched-from : 0 < (stage_at m 0).variables → (s : ℕ) (among : List ℕ) → p ≡ Some among → Aims e.states e.moves.ways s among → SearchedFrom m s w r
  searched-from one s among asks aims = record {
    explored = surveyed-found;
    verdict = λ ps t lead o there same. let law = levels.verdict-from m wf w r.explored.states (surveyed-exactly m w r.explored surveyed-found) r.explored.moves.ways surveyed-found.moves.ways p r.levels filled surveyed-found.whole surveyed-found.found s among asks
        (aims-points m wf r.explored.states surveyed-found.proper r.explored.moves.ways surveyed-found.moves.ways s among aimed) one ps t lead o there same in
        ((λ q. law.0 (judged.entered.0 q)), λ q. judged.entered.1 (law.1 q));
    entered = judged.entered.0;
    asked = among;
    aims = aimed;
    levels = subst (λ (x : Option (List ℕ)). Filled m (row r.explored.states) w r.explored.moves.ways x r.levels) asks filled;
  }
    where
      aimed : Aims r.explored.states r.explored.moves.ways s among
      aimed = subst (λ (x : Explored). Aims x.states x.moves.ways s among) (sym judged.explored) aims
