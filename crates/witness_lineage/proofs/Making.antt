-- Writing a lineage from its last line back, and the lineages of all states.
use mathlib.Core.Path.{◌≡◌, sym, ap, ◌∙◌}
use mathlib.Core.Logic.{⊎_elim}
use mathlib.Core.Bool.{Bool, true, false}
use mathlib.Core.List.{List, [], ◌∷◌, ◌++◌, append_assoc, append-nil, map-append}
use Prim.Native.Nat.{ℕ, zero, suc, ◌+◌, ◌≤◌, ◌<◌}
use native.Mathlib.Omega.{arith}
use lib.ListN.{length, take, get_or, set, length-append, length-map}
use Rattle.std.proofs.lemmas.Bool.{cases_Bool}
use Rattle.limits.specs.Limits as limit
use Rattle.semantics.specs.Models.{Line, rule, new, next, other, line}
use Rattle.semantics.specs.Steps.{Pair}
use Rattle.semantics.specs.Runs.{step}
use Rattle.semantics.specs.Tables.{From}
use Rattle.semantics.specs.Building.{places, grown, lineage, with}
use Rattle.semantics.specs.Walkers.{raise}
use Rattle.semantics.proofs.Tools.{clash}
use Rattle.model.specs.declared.Model.{Model}
use Rattle.model.specs.declared.Place.TheVariants.{Step}
use Rattle.model.specs.Records.{program_of}
use Rattle.model.specs.WellFormed.{WellFormed}
use Rattle.model.specs.Places.{number_of, numeral}
use Rattle.search_states.specs.declared.States.{States}
use Rattle.search_states.specs.States.{row, by, from, Proper, Discovered}
use Rattle.search_states.proofs.Laws.{length-row}
use Rattle.witness_table.specs.Runs.{AllNumerable, backwards}
use Rattle.witness_table.proofs.Laws.{backwards-none, backwards-on, backwards-more, numerable-append}
use Rattle.witness_lineage.specs.Lineage.{is_new, lines_to, making, building, Ancestry, Makes}
use Rattle.witness_lineage.proofs.Laws.{earlier, lineage-new, lineage-next, small_line}

pub length-steps : (ts : List Pair) → length (places ts) ≡ length ts
length-steps ts = length-map ts _

length-with : (o : ℕ) (ls : List ℕ) → length (with o ls) ≡ length ls
length-with o ls = length-map ls _

pub length-places : (o : ℕ) (ls : List ℕ) → length (places (with o ls)) ≡ length ls
length-places o ls = length-steps (with o ls) ∙ length-with o ls

-- from index k on the table has the lines of object o behind those that make state i, and index `at` is the next
pub record Made (m : Model) (s : States) (state o k : ℕ) (run₀ run : List ℕ) (i at : ℕ) : Type 0 where
  pub lines : List ℕ
  pub rest : lines_to m s state ≡ lines_to m s i ++ lines
  pub written : run ≡ backwards run₀ k (places (with o lines))
  pub index : at ≡ k + length lines
  pub inside : i < s.count

module _ (m : Model) (wf : WellFormed m) (s : States) (proper : Proper s) (found : Discovered (program_of m) s) where
  listed : {i : ℕ} → i < s.count → i < length (row s)
  listed h = omega (arith, length-row s proper)

  -- the line that a state came by has a number that leaves the object its room
  pub small_by : (i : ℕ) → i < s.count → by s i < limit.text
  small_by i h = small_line m wf (From (program_of m) _ _ (from s i)) (λ f. f) (by s i) (found i (listed h))

  pub step-number : (i o : ℕ) → i < s.count → o < 255 → numeral (Step (by s i) o) ≡ number_of (step (by s i) o)
  step-number i o h g = let l = small_by i h in omega arith

  module _ (state o k : ℕ) (run₀ : List ℕ) where
    pub made_none : state < s.count → Made m s state o k run₀ run₀ state k
    made_none h = record { lines = []; rest = sym (append-nil (lines_to m s state)); written = sym (backwards-none run₀ k); index = omega arith; inside = h }

    -- the line of state i is written too
    module _ (run : List ℕ) (i at : ℕ) (h : Made m s state o k run₀ run i at) where
      on : set run at (number_of (step (by s i) o)) ≡ backwards run₀ k (places (with o (by s i ∷ h.lines)))
      on =
          ap (λ (l : List ℕ). set l at (number_of (step (by s i) o))) h.written
          ∙ (rw (h.index, ← length-places o h.lines) (backwards-more run₀ k (places (with o h.lines)) (step (by s i) o)))

      pub made_all : is_new (line (program_of m) (by s i)) ≡ true
          → (at + 1 ≡ k + length (making m s o state)) × (set run at (number_of (step (by s i) o)) ≡ backwards run₀ k (making m s o state))
      made_all e = (rw length-places (omega (arith, h.index, ap length whole)), on ∙ ap (λ (ls : List ℕ). backwards run₀ k (places (with o ls))) (sym whole))
        where
          whole : lines_to m s state ≡ by s i ∷ h.lines
          whole = h.rest ∙ ap (λ (ls : List ℕ). ls ++ h.lines) (lineage-new (program_of m) (row s) (by s) (from s) found i (listed h.inside) e)

      pub made_more : is_new (line (program_of m) (by s i)) ≡ false
          → (from s i < i) × Made m s state o k run₀ (set run at (number_of (step (by s i) o))) (from s i) (at + 1)
      made_more e =
          let w = lineage-next (program_of m) (row s) (by s) (from s) found i (listed h.inside) e in (
            w.0,
            record {
              lines = by s i ∷ h.lines;
              rest = h.rest ∙ ap (λ (ls : List ℕ). ls ++ h.lines) w.1 ∙ append_assoc (lines_to m s (from s i)) (by s i ∷ []) h.lines;
              written = on;
              index = let a = h.index in omega arith;
              inside = let a = h.inside in let b = w.0 in omega arith;
            },
          )

      -- there is room for it
      pub made-room : k + length (lines_to m s state) ≤ length run₀ → at < length run₀
      made-room r = ⊎_elim
          (λ (e : is_new (line (program_of m) (by s i)) ≡ true). let a = (made_all e).0 in omega (arith, length-places o (lines_to m s state)))
          (λ (e : is_new (line (program_of m) (by s i)) ≡ false). let a = (made_more e).1 in
          omega (arith, a.index, ap length a.rest, length-append (lines_to m s (from s i)) a.lines))
          (cases_Bool (is_new (line (program_of m) (by s i))))

-- the same, read from the rows
module _ (m : Model) (s : States) (born : List Bool) (a : Ancestry m s born) where
  pub trace-inside : (i : ℕ) → i < s.count → (i < length s.arrivals) × (i < length born)
  trace-inside i h = let p = a.proper in (omega (arith, p.count, p.arrivals), omega (arith, p.count, a.born.long))

  -- there is room for the first line
  pub first-room : (state k : ℕ) (run : List ℕ) → Makes m s state k run → k < length run
  first-room state k run h =
      made-room m a.model s a.proper a.found state 0 k run run state k (made_none m a.model s a.proper a.found state 0 k run h.0) h.1

  module _ (state o k : ℕ) (run₀ run : List ℕ) (i at : ℕ) (small : o < 255) (h : Made m s state o k run₀ run i at) where
    number : numeral (Step (by s i) o) ≡ number_of (step (by s i) o)
    number = step-number m a.model s a.proper a.found i o h.inside small

    pub trace-all : get_or born i false ≡ true → (at + 1 ≡ k + length (making m s o state)) × (set run at (numeral (Step (by s i) o)) ≡ backwards run₀ k (making m s o state))
    trace-all e = rw number (made_all m a.model s a.proper a.found state o k run₀ run i at h ((a.born.made i h.inside).0 e))

    pub trace-more : get_or born i false ≡ false → (from s i < i) × Made m s state o k run₀ (set run at (numeral (Step (by s i) o))) (from s i) (at + 1)
    trace-more e = rw number
        (made_more m a.model s a.proper a.found state o k run₀ run i at h
        (⊎_elim (λ (q : is_new (line (program_of m) (by s i)) ≡ true). clash ((a.born.made i h.inside).1 q) e) (λ (q : is_new (line (program_of m) (by s i)) ≡ false). q) (cases_Bool (is_new (line (program_of m) (by s i))))))

-- from index k on the table has the steps behind those that make the first n states, each behind b objects, and index `at` is the next
pub record Built (m : Model) (s : States) (b k : ℕ) (run₀ run : List ℕ) (n at : ℕ) : Type 0 where
  pub steps : List Pair
  pub rest : raise (program_of m) (by s) (from s) b s.count ≡ raise (program_of m) (by s) (from s) b n ++ steps
  pub written : run ≡ backwards run₀ k (places steps)
  pub index : at ≡ k + length steps

module _ (m : Model) (s : States) (b k : ℕ) (run₀ : List ℕ) where
  pub built-none : Built m s b k run₀ run₀ s.count k
  built-none = record { steps = []; rest = sym (append-nil _); written = sym (backwards-none run₀ k); index = omega arith }

  module _ (run : List ℕ) (n at : ℕ) (h : Built m s b k run₀ run (suc n) at) where
    before : raise (program_of m) (by s) (from s) b s.count ≡ raise (program_of m) (by s) (from s) b n ++ (with (b + n) (lines_to m s n) ++ h.steps)
    before = h.rest ∙ append_assoc (raise (program_of m) (by s) (from s) b n) (with (b + n) (lines_to m s n)) h.steps

    pub built-room : k + length (building m s b s.count) ≤ length run₀ → at + length (lines_to m s n) ≤ length run₀
    built-room r = omega (
      arith,
      h.index,
      length-steps (raise (program_of m) (by s) (from s) b s.count),
      ap length before,
      length-append (raise (program_of m) (by s) (from s) b n) (with (b + n) (lines_to m s n) ++ h.steps),
      length-append (with (b + n) (lines_to m s n)) h.steps,
      length-with (b + n) (lines_to m s n),
    )

    pub built-more : (run' : List ℕ) (at' : ℕ) → at' ≡ at + length (making m s (b + n) n) → run' ≡ backwards run at (making m s (b + n) n) → Built m s b k run₀ run' n at'
    built-more run' at' e q =
        record {
          steps = with (b + n) (lines_to m s n) ++ h.steps;
          rest = before;
          written = q ∙ ap (λ (l : List ℕ). backwards l at (making m s (b + n) n)) h.written
              ∙ (rw (h.index, ← length-steps h.steps, map-append) (backwards-on run₀ k (places h.steps) (making m s (b + n) n)));
          index = omega (arith, h.index, length-append (with (b + n) (lines_to m s n)) h.steps, length-steps (with (b + n) (lines_to m s n)));
        }

-- the places that make states have numbers
module _ (m : Model) (wf : WellFormed m) (s : States) (proper : Proper s) (found : Discovered (program_of m) s) where
  numerable-lineage : (n i o : ℕ) → o < 255 → i < n → i < s.count → AllNumerable (places (with o (lineage (program_of m) (by s) (from s) n i)))
  numerable-lineage zero i o b l h = tt
  numerable-lineage (suc n) i o b l h = go (λ p a c. numerable-lineage n p o b a c) (line (program_of m) (by s i)) (found i (listed m wf s proper found h))
    where
      mine : AllNumerable (places (with o (by s i ∷ [])))
      mine = let q = small_by m wf s proper found i h in ((omega arith, b), tt)

      go : ((p : ℕ) → p < n → p < s.count → AllNumerable (places (with o (lineage (program_of m) (by s) (from s) n p))))
          → (L : Line) → From (program_of m) (take i (row s)) (get_or (row s) i 0) (from s i) L → AllNumerable (places (with o (grown L (lineage (program_of m) (by s) (from s) n (from s i)) (by s i))))
      go ih (rule r xs b) f = tt
      go ih (new t b) f = mine
      go ih (next x plus minus b) f =
          let e : from s i < i = earlier (program_of m) (row s) (by s) (from s) found i (listed m wf s proper found h) x plus minus b f in
          rw (map-append, map-append) (numerable-append (places (with o (lineage (program_of m) (by s) (from s) n (from s i)))) (places (with o (by s i ∷ []))) (ih (from s i) (omega arith) (omega arith)) mine)
      go ih other f = tt

  pub numerable-making : (i o : ℕ) → o < 255 → i < s.count → AllNumerable (making m s o i)
  numerable-making i o b h = numerable-lineage (suc i) i o b (omega arith) h

  pub numerable-building : (b n : ℕ) → n ≤ s.count → b + n ≤ 255 → AllNumerable (building m s b n)
  numerable-building b zero h l = tt
  numerable-building b (suc n) h l =
      rw map-append (numerable-append (building m s b n) (making m s (b + n) n) (numerable-building b n (omega arith) (omega arith)) (numerable-making n (b + n) (omega arith) (omega arith)))
