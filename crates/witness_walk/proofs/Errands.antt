-- The errands of the carried objects, as places that are written.
use mathlib.Core.Path.{◌≡◌, refl, sym, ap, ◌∙◌}
use mathlib.Core.Bool.{Bool, true, false}
use mathlib.Core.List.{List, [], ◌∷◌, reverse}
use Prim.Native.Nat.{ℕ, zero, suc, ◌+◌, ◌-◌, ◌≤◌, ◌<◌}
use native.Mathlib.Omega.{arith}
use native.Mathlib.Nat.{not-suc-le-zero}
use lib.ListN.{length, take, drop, get_or, set, length-drop, length-reverse}
use lib.Seq.{drop-cons, length-take-le}
use Rattle.std.specs.List.{enumerate_from}
use Rattle.std.proofs.lemmas.List.{get_or-reverse}
use Rattle.std.proofs.lemmas.List.FromFn.{length-enumerate_from, get_or-enumerate_from}
use Rattle.std.proofs.lemmas.Grind.{get_or_default_zero}
use Rattle.limits.specs.Limits as limit
use Rattle.semantics.specs.Facts.{Database, state}
use Rattle.semantics.specs.Runs.{Place, step}
use Rattle.semantics.specs.Building.{places, with}
use Rattle.semantics.specs.Walkers.{Takes, Way, Touches}
use Rattle.semantics.proofs.WalkersBuild.{length-lineage}
use Rattle.model.specs.declared.Model.{Model}
use Rattle.model.specs.declared.Place.TheVariants.{Step}
use Rattle.model.specs.Records.{program_of}
use Rattle.model.specs.WellFormed.{WellFormed}
use Rattle.model.specs.Places.{number_of, numeral, Numerable}
use Rattle.search_states.specs.declared.States.{States}
use Rattle.search_states.specs.States.{row, by, from, Proper, Discovered}
use Rattle.search_states.proofs.Laws.{length-row}
use Rattle.search_ways.specs.Shortest.{Shortest}
use Rattle.witness_table.specs.Runs.{AllNumerable, backwards}
use Rattle.witness_table.proofs.Laws.{backwards-none, backwards-more}
use Rattle.witness_lineage.specs.Lineage.{lines_to, making}
use Rattle.witness_lineage.proofs.Laws.{small_line}
use Rattle.witness_lineage.proofs.Making.{length-places, numerable-making}
use Rattle.witness_meetings.specs.Meetings.{Written}
use Rattle.witness_walk.specs.Walk.{Ready, Errand, effort}

-- the steps of a way have numbers
numerable-way : (m : Model) → WellFormed m → (S : Database) (o : ℕ) → o < 255 → (ls : List ℕ) (c d : ℕ) → Way (program_of m) S c ls d → AllNumerable (places (with o ls))
numerable-way m wf S o b [] c d h = tt
numerable-way m wf S o b (ℓ ∷ ls) c d h = ((omega (arith, small_line m wf (Takes (program_of m) S c h.0) (λ f. f) ℓ h.1), b), numerable-way m wf S o b ls h.0 d h.2)

numerable-at : (o : ℕ) (ls : List ℕ) (i : ℕ) → i < length ls → AllNumerable (places (with o ls)) → Numerable (step (get_or ls i 0) o)
numerable-at o [] i l h = absurd (not-suc-le-zero l)
numerable-at o (ℓ ∷ ls) zero l h = h.0
numerable-at o (ℓ ∷ ls) (suc i) l h = numerable-at o ls i (omega arith) h.1

-- the line that comes behind n others, from the last one on
pub line-back : (lines : List ℕ) (n : ℕ) (x : ℕ × ℕ) → (n < length (enumerate_from 0 (reverse lines))) × (x ≡ get_or (enumerate_from 0 (reverse lines)) n x) → (n < length lines) × (x.0 ≡ n) × (x.1 ≡ get_or lines (length lines - suc n) 0)
line-back lines n x h =
    let few : n < length lines = omega (arith, h.0, length-enumerate_from 0 (reverse lines), length-reverse lines) in
    let e : x ≡ (0 + n, get_or (reverse lines) n x.1) = h.1 ∙ get_or-enumerate_from 0 (reverse lines) n x (omega (arith, few, length-reverse lines)) in
    let same : length lines - 1 - n ≡ length lines - suc n = omega arith in
    (few, omega (arith, ap (λ (p : ℕ × ℕ). p.0) e), ap (λ (p : ℕ × ℕ). p.1) e ∙ get_or-reverse lines n x.1 few ∙ get_or_default_zero lines (length lines - 1 - n) x.1 (omega (arith, few)) ∙ ap (λ (i : ℕ). get_or lines i 0) same)

-- ONE STEP MORE is written, before those behind line i
module _ (run₀ lines : List ℕ) (k o : ℕ) (numerable : AllNumerable (places (with o lines))) where
  told-number : (i : ℕ) → i < length lines → numeral (Step (get_or lines i 0) o) ≡ number_of (step (get_or lines i 0) o)
  told-number i l = let h = numerable-at o lines i l numerable in omega (arith, h.0, h.1)

  pub told_more : (run : List ℕ) (i at x : ℕ) → i < length lines → at ≡ k + (length lines - suc i) → run ≡ backwards run₀ k (places (with o (drop (suc i) lines))) → x ≡ numeral (Step (get_or lines i 0) o)
      → set run at x ≡ backwards run₀ k (places (with o (drop i lines)))
  told_more run i at x l e h q = rw (drop-cons lines i 0) (ap (set run at) (q ∙ told-number i l) ∙ ap (λ (r : List ℕ). set r at (number_of (step (get_or lines i 0) o))) h
      ∙ (rw (e, ← length-drop (suc i) lines, ← length-places o (drop (suc i) lines)) (backwards-more run₀ k (places (with o (drop (suc i) lines))) (step (get_or lines i 0) o))))

-- A SHORTEST WAY IS WRITTEN, with fewer places than there are states
module _ (m : Model) (wf : WellFormed m) (s : States) (proper : Proper s) (e t o : ℕ) (small : o < limit.objects) (out lines : List ℕ) (n : ℕ) (h : Shortest (program_of m) (row s) e t out lines n) where
  pub way-few : n < s.count
  way-few = omega (arith, h.few, length-row s proper)

  pub way-numerable : AllNumerable (places (with o (take n lines)))
  way-numerable = numerable-way m wf (row s) o small (take n lines) (state (row s) e) (state (row s) t) h.way

  pub way-written : n ≤ length lines → (run run' : List ℕ) (at at' : ℕ) → at' ≡ at + n → run' ≡ backwards run at (places (with o (take n lines))) → Written (Errand m s o true true e t) (s.count - 1) run at run' at'
  way-written long run run' at at' i w = record {
    places = places (with o (take n lines));
    good = (take n lines, h.way, refl);
    few = omega (arith, count, way-few);
    numerable = way-numerable;
    written = w;
    index = omega (arith, i, count);
  }
    where
      count : length (places (with o (take n lines))) ≡ n
      count = length-places o (take n lines) ∙ length-take-le n lines long

-- the making of a state takes at most one step for each state
pub making-few : (m : Model) (s : States) → Proper s → Discovered (program_of m) s → (e : ℕ) → e < s.count → length (lines_to m s e) ≤ s.count
making-few m s proper found e inside = omega (arith, length-lineage (program_of m) (row s) (by s) (from s) found (suc e) e (omega arith) (omega (arith, length-row s proper)))

-- AN ERRAND IS WRITTEN
module _ (m : Model) (s : States) (o u e : ℕ) where
  -- none, where the variable does not stand in the stage
  pub stay-written : (began : Bool) (run : List ℕ) (at : ℕ) → Written (Errand m s o false began u e) (effort s.count false began) run at run at
  stay-written began run at = record { places = []; good = refl; few = omega arith; numerable = tt; written = sym (backwards-none run at); index = omega arith }

  -- the making of the object
  pub making-written : WellFormed m → Proper s → Discovered (program_of m) s → e < s.count → o < limit.objects → (run run' : List ℕ) (at at' : ℕ) → at' ≡ at + length (making m s o e) → run' ≡ backwards run at (making m s o e)
      → Written (Errand m s o true false u e) (effort s.count true false) run at run' at'
  making-written wf proper found inside small run run' at at' i q = record {
    places = making m s o e;
    good = refl;
    few = omega (arith, length-places o (lines_to m s e), making-few m s proper found e inside);
    numerable = numerable-making m wf s proper found e o small inside;
    written = q;
    index = i;
  }

-- the steps of an errand are those of its object
module _ (m : Model) (s : States) (o : ℕ) (R : ℕ → Type 0) (own : R o) where
  touches-with : (ls : List ℕ) → Touches R (places (with o ls))
  touches-with [] = tt
  touches-with (ℓ ∷ ls) = (own, touches-with ls)

  pub touches-errand : (h c : Bool) (u e : ℕ) (ps : List Place) → Errand m s o h c u e ps → Touches R ps
  touches-errand false c u e ps q = rw q tt
  touches-errand true false u e ps q = rw q (touches-with (lines_to m s e))
  touches-errand true true u e ps q = rw q.2 (touches-with q.0)

-- whether the variable stands in the stage, and stood in one before, was tested
module _ (m : Model) (s : States) (u e : ℕ) (h c h' c' : Bool) (q : h ≡ h') (p : c ≡ c') where
  pub ready-as : Ready m s h c u e → Ready m s h' c' u e
  ready-as r = rw (← q, ← p) r

  pub errand-as : (o : ℕ) (run run' : List ℕ) (at at' : ℕ) → Written (Errand m s o h' c' u e) (effort s.count h' c') run at run' at' → Written (Errand m s o h c u e) (effort s.count h c) run at run' at'
  errand-as o run run' at at' r = rw (q, p) r
