-- CELLS: rows of numbers in place of records.
use Rattle.std.specs.Prelude.{Option, unwrap_or, List, [], ◌∷◌, ◌++◌, map, ℕ, ◌+◌, ◌-◌, take, slice_index}
use Rattle.limits.specs.Limits as limit
use Rattle.analyzer_verdict.specs.declared.Answer.{Answer}
use Rattle.analyzer_verdict.specs.declared.Answer.TheVariants.{Reached, Unreached, Refused}
use Rattle.analyzer_verdict.specs.declared.Analysis.{Analysis}
use Rattle.replay_session.specs.declared.Session.{Session}
use Rattle.replay_meetings.specs.Carried.{object_of}

-- the number of the shown run's last place, 0 where there is no run
abbrev pub last_number : Answer → List ℕ → ℕ
last_number (Reached n last) run = slice_index run (n - 1)
last_number Unreached run = 0
last_number (Refused n l) run = 0

-- WHAT STANDS BESIDE AN ANSWER of the analysis: the number of reachable atomic states, 128 cells of the states by rising number, the empty one first, with zeros behind, and the number of the last place
abbrev pub table : Analysis → ℕ → List ℕ
table a last = a.count ∷ (a.states ++ (last ∷ []))

-- THE REPLAY'S STATE: 255 atomic states, the number of objects, the stages met, the first and the second carried object, 255 for none, the places kept
abbrev pub state_of : List ℕ → Session
state_of cells =
    record {
      states = take limit.objects cells;
      objects = slice_index cells limit.objects;
      met = slice_index cells (limit.objects + 1);
      carried = object_of (slice_index cells (limit.objects + 2)) ∷ object_of (slice_index cells (limit.objects + 3)) ∷ [];
      kept = slice_index cells (limit.objects + 4);
    }

-- the cell of a carried object
abbrev pub cell_of : Option ℕ → ℕ
cell_of o = unwrap_or o limit.none

abbrev pub cells_of : Session → List ℕ
cells_of s = s.states ++ (s.objects ∷ s.met ∷ (map cell_of s.carried ++ (s.kept ∷ [])))
