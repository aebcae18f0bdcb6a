-- What the search and the written run give of the answer.
use mathlib.Core.Path.{◌≡◌, refl, sym, ap, ◌∙◌}
use mathlib.Core.List.{List, [], ◌∷◌, ◌++◌}
use mathlib.Core.Option.{some}
use Prim.Native.Nat.{ℕ, ◌-◌}
use lib.ListN.{length, take, drop, get_or, length-map}
use lib.Seq.{take_at, drop_at}
use Rattle.semantics.specs.Models.{Program, Question}
use Rattle.semantics.specs.Runs.{meet}
use Rattle.model.specs.declared.Model.{Model}
use Rattle.model.specs.declared.Place.{Place}
use Rattle.model.specs.Records.{program_of, question_of}
use Rattle.model.specs.WellFormed.{WellFormed}
use Rattle.model.specs.Places.{number_of, placed, stands_for, place_of}
use Rattle.model.proofs.Accepted.{stages}
use Rattle.std.specs.Prelude.{None}
use Rattle.search.specs.declared.Explored.{Explored}
use Rattle.search.specs.declared.Found.{Found}
use Rattle.search.specs.Search.{Surveyed, Searched}
use Rattle.witness_table.specs.Runs.{numbers}
use Rattle.witness_walk.specs.Walk.{Recorded}
use Rattle.witness.specs.Witness as witness
use Rattle.witness.proofs.Laws.{last-place, played-on}
use Rattle.analyzer_verdict.specs.declared.Answer.{Answer}
use Rattle.analyzer_verdict.specs.declared.Answer.TheVariants.{Reached, Unreached, Refused}
use Rattle.calls.specs.Crowding.{Crowded}
use Rattle.search_states.specs.Listed.{Listed}
use Rattle.analyzer_verdict.specs.Judging.{Shown, Answered, Beside}

-- the place of a number is the one that its parts stand for
pub parts : (k : ℕ) → stands_for (placed k) ≡ place_of k
unfolding place_of
parts k = refl

-- where there are not too many states, the answer is a verdict, and the states stand beside it
pub beside : (P : Program) (Q : Question) (run run' states : List ℕ) (n : ℕ) → (Crowded P → ⊥) → Listed P states n → (a : Answer) → Answered P Q run run' a → Beside P states n a
beside P Q run run' states n few l (Reached places last) h = l
beside P Q run run' states n few l Unreached h = l
beside P Q run run' states n few l (Refused number line) h = absurd (few h.0)

-- the states by rising number
pub listed : (m : Model) (w : List ℕ) (e : Explored) → Surveyed m w e → Listed (program_of m) e.listing.states e.listing.count
listed m w e f = record {
  count = f.listing.count;
  rising = f.listing.rising;
  reachable = λ t. ((λ h. (f.listing.same t).1 ((f.reachable t).0 h)), λ h. (f.reachable t).1 ((f.listing.same t).0 h));
  rest = f.listing.rest;
}

module _ (m : Model) (wf : WellFormed m) where
  module _ (w : List ℕ) (r : Found) (h : Searched m w r) where
    -- what the search recorded
    pub recorded : Recorded m w r.explored.states r.levels.rows r.explored.moves.table r.explored.moves.steps r.explored.moves.ways
    recorded =
        let e = h.explored in
        record {
          known = record { model = wf; proper = e.proper; found = e.found; agree = e.agree; exact = e.exact };
          mapped = record { whole = e.whole; moves = e.moves.table; single = e.moves.steps };
          comes = e.moves.ways;
          asked = None;
          levels = h.levels;
        }

  -- the run written, and its last place
  pub shown : (run run' : List ℕ) (n : ℕ) (place : Place) → witness.Shown m run run' n → place ≡ placed (get_or run' (n - 1) 0) → Shown (program_of m) (question_of m) run run' n place
  shown run run' n place h e =
      record {
        places = h.places;
        count = h.index;
        written = ap (take n) h.written ∙ take_at (numbers h.places) (drop n run) n long;
        decoded = h.decoded;
        rest = ap (drop n) h.written ∙ drop_at (numbers h.places) (drop n run) n long;
        fits = h.few;
        kept = h.kept;
        before = h.last.0;
        objects = h.last.1;
        ends = h.last.2 ∙ ap (λ (i : ℕ). h.last.0 ++ (meet i h.last.1 ∷ [])) (sym (stages m wf));
        meeting = meets;
        last = e;
        playing = played-on m run run' n h wf;
      }
    where
      long : length (numbers h.places) ≡ n
      long = length-map h.places number_of ∙ sym h.index

      meets : stands_for place ≡ some (meet (length (question_of m)) h.last.1)
      meets = ap stands_for e ∙ parts (get_or run' (n - 1) 0) ∙ (last-place m run run' n h).1 ∙ ap (λ (i : ℕ). some (meet i h.last.1)) (sym (stages m wf))
