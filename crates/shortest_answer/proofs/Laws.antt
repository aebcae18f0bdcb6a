-- A way found over the states is one beside the helpers, and none found is none at all.
use mathlib.Core.Path.{◌≡◌, refl, sym}
use mathlib.Core.Logic.{inl, inr, ⊎_elim, ◌↔◌, ◌≢◌}
use mathlib.Core.Bool.{true, false}
use mathlib.Core.List.{List}
use Prim.Native.Nat.{ℕ, ◌<◌}
use native.Mathlib.Omega.{arith}
use lib.ListN.{length, take}
use Rattle.std.proofs.lemmas.Bool.{cases_Bool}
use Rattle.semantics.specs.Models.{elem}
use Rattle.semantics.specs.Facts.{Database, state}
use Rattle.semantics.specs.Steps.{Reachable}
use Rattle.semantics.specs.Tables.{Within, seat}
use Rattle.semantics.specs.Walkers.{Comes}
use Rattle.semantics.proofs.Tools.{seat-ok}
use Rattle.semantics.proofs.WalkersMoves.{comes-empty}
use Rattle.model.specs.declared.Model.{Model}
use Rattle.model.specs.Records.{program_of}
use Rattle.model.specs.WellFormed.{WellFormed}
use Rattle.search_states.specs.declared.States.{States}
use Rattle.search_states.specs.States.{row, Known, Proper}
use Rattle.search_states.proofs.Laws.{length-row, row-full}
use Rattle.search_ways.specs.Shortest as ways
use Rattle.search.specs.declared.Explored.{Explored}
use Rattle.search.specs.Search.{Surveyed}
use Rattle.helpers.specs.Helpers.{Helpers, Helped}
use Rattle.helpers.proofs.Beside.{some-helpers, way-leads, leads-way}
use Rattle.shortest_empty.specs.Emptying as empty
use Rattle.shortest_empty.proofs.Laws.{take-most}
use Rattle.std.specs.Prelude.{Option, Some, None, Ok}
use Rattle.shortest_answer.specs.Answering.{Both, Answered}
use Rattle.shortest_answer.specs.Ending.{Ended}

-- a found state that is not empty has a slot
pub slot : (s : States) → Proper s → (t : ℕ) → t ≢ 0 → Known s t → (seat t (row s) < s.count) × (state (row s) (seat t (row s)) ≡ t)
slot s proper t n k = let r = seat-ok t (row s) (⊎_elim (λ q. absurd (n q.0)) (λ q. q) k) in (rw (length-row s proper) at r.0, r.1)

-- the empty state is found if it is noted
pub known-empty : (s : States) → Proper s → (s.empty ≡ true) ↔ Known s 0
known-empty s proper = ((λ e. inl (refl, e)), λ k. ⊎_elim (λ q. q.1) (λ q. absurd (row-full s proper q)) k)

-- another one if it is in the row
pub known-row : (s : States) (t : ℕ) → t ≢ 0 → (elem t (row s) ≡ true) ↔ Known s t
known-row s t n = ((λ e. inr e), λ k. ⊎_elim (λ q. absurd (n q.0)) (λ q. q) k)

-- A SHORTEST WAY between slots
pub shortest-fewest : (m : Model) (s : States) (e t : ℕ) (out out' : List ℕ) (k : ℕ) → ways.Shortest (program_of m) (row s) e t out out' k → empty.Fewest (program_of m) (row s) (state (row s) e) (state (row s) t) out out' k
shortest-fewest m s e t out out' k h = record { few = omega (arith, h.few); way = h.way; least = h.least; rest = h.rest }

-- what is found between slots is what ends at their states
pub between-ended : (m : Model) (s : States) (e t : ℕ) (out out' : List ℕ) (k : Option ℕ) → empty.WayBetween (program_of m) (row s) e t out out' k → Ended (program_of m) (row s) (state (row s) e) (state (row s) t) out out' k
between-ended m s e t out out' None h = h
between-ended m s e t out out' (Some k) h = shortest-fewest m s e t out out' k h

-- from a state to itself
pub staying : (m : Model) (s : States) (e t : ℕ) (out : List ℕ) → e ≡ t → empty.Fewest (program_of m) (row s) e t out out 0
staying m s e t out q = record { few = omega arith; way = q; least = λ ls w. omega arith; rest = refl }

-- WHAT IS EXPLORED
module _ (m : Model) (wf : WellFormed m) (w : List ℕ) (r : Explored) (h : Surveyed m w r) where
  full : elem 0 (row r.states) ≡ false
  full = ⊎_elim (λ e. absurd (row-full r.states h.proper e)) (λ e. e) (cases_Bool (elem 0 (row r.states)))

  helped : (R : Database → Type 0) → ((H : Database) → Helpers (program_of m) H → R H) → Helped (program_of m) R
  helped R so = let k = some-helpers (program_of m) (row r.states) r.states.empty h.proper.distinct full h.reachable in record { row = k.0; helpers = k.1; so = so }

  listed : (t : ℕ) → elem t (row r.states) ≡ true → Reachable (program_of m) t
  listed t e = (h.reachable t).1 (inr e)

  within : (t : ℕ) → Known r.states t → Within (row r.states) t
  within t k = ⊎_elim (λ q. inl q.0) (λ q. inr q) k

  reached : (t : ℕ) → Reachable (program_of m) t → Within (row r.states) t
  reached t q = within t ((h.reachable t).0 q)

  -- THE ANSWER over the states is the answer beside the helpers
  pub answered : (s t : ℕ) → Known r.states s → Known r.states t → (run run' : List ℕ) (a : Option ℕ) → Ended (program_of m) (row r.states) s t run run' a → Answered (program_of m) s t run run' (Ok a)
  answered s t ks kt run run' (Some n) e =
      let long : n ≡ length (take n run') = omega (arith, take-most n run', e.least (take n run') e.way) in (
        h.few,
        ((h.reachable s).1 ks, (h.reachable t).1 kt),
        record {
          lines = take n run';
          count = long;
          written = refl;
          rest = e.rest;
          shortest = helped _ (λ H k. (
            way-leads (program_of m) wf.safe (row r.states) listed reached H k s t (take n run') e.way,
            λ ms q. omega (arith, long, e.least ms (leads-way (program_of m) wf.safe (row r.states) listed reached H k h.whole s t ms (within s ks) q)),
          ));
          most = omega (arith, e.few, length-row r.states h.proper, h.proper.count);
        },
      )
  answered s t ks kt run run' None e = (
    h.few,
    ((h.reachable s).1 ks, (h.reachable t).1 kt),
    helped _ (λ H k ls q. e.0 (ls, leads-way (program_of m) wf.safe (row r.states) listed reached H k h.whole s t ls (within s ks) q)),
    e.1,
  )

  -- one of the states is not found
  pub unknown : (s t : ℕ) → (Known r.states s × Known r.states t → ⊥) → Both (program_of m) s t → ⊥
  unknown s t n b = n ((h.reachable s).0 b.0, (h.reachable t).0 b.1)

-- nothing moves from the empty state to another
pub stuck : (m : Model) → WellFormed m → (s : States) (t : ℕ) → 0 ≢ t → Comes (program_of m) (row s) 0 t → ⊥
stuck m wf s t n c = n (sym (comes-empty (program_of m) wf.safe (row s) t c))
