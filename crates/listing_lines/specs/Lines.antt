-- THE LISTING: "one form a line", ended by byte 10.
use Rattle.std.specs.Prelude.{Bool, true, false, if◌then◌else◌, List, [], ◌∷◌, ◌++◌, map, ℕ, zero, suc, ◌+◌, ◌≤◌, ◌<◌, ◌*◌, length, slice_index}
use Rattle.std.proofs.Math.Option.{Option, none, some}
use Rattle.std.proofs.Math.Seq.{slice}
use Rattle.limits.specs.Limits as limit
use Rattle.semantics.specs.Labels.{has}
use Rattle.semantics.specs.Runs.{Place, step, meet}
use Rattle.model.specs.declared.Model.{Model}
use Rattle.model.specs.Records.{name_of}
use Rattle.listing_bytes.specs.Numerals.{decimal}
use Rattle.listing_bytes.specs.Forms.{bytes, form}

-- the "verdict": `(verdict reached)` or `(verdict unreached)`
unfoldable pub verdict_line : Bool → List ℕ
verdict_line true = form "verdict" (bytes "reached" ∷ [])
verdict_line false = form "verdict" (bytes "unreached" ∷ [])

-- the "number of reachable atomic states": `(states n)`
unfoldable pub states_line : ℕ → List ℕ
states_line n = form "states" (decimal n ∷ [])

-- the name of declared relation i, as it stands in the text
abbrev pub name_at : List ℕ → Model → ℕ → List ℕ
name_at text m i = slice (name_of m i).start ((name_of m i).start + (name_of m i).len) text

-- the names of those of the first i declared relations that are in the set s, "in order of declaration"
abbrev pub names_in : List ℕ → Model → ℕ → ℕ → List (List ℕ)
names_in text m s zero = []
names_in text m s (suc i) = names_in text m s i ++ (if has s (slice_index m.relations.codes i) then name_at text m i ∷ [] else [])

-- what acceptance guarantees of the names: each stands in the text, and "is 1 to 16 letters or digits"
pub record Named (text : List ℕ) (m : Model) : Type 0 where
  pub within : (i : ℕ) → i < m.relations.count → (name_of m i).start + (name_of m i).len ≤ length text
  pub short : (i : ℕ) → i < m.relations.count → (name_of m i).len ≤ limit.name

-- an atomic state: `(atomic A B)`, and `(atomic)` for the empty one
unfoldable pub atomic_line : List ℕ → Model → ℕ → List ℕ
atomic_line text m s = form "atomic" (names_in text m s m.relations.count)

-- a place of the run: "`(step line object)` and `(meet stage object ..)`"
unfoldable pub place_line : Place → List ℕ
place_line (step ℓ o) = form "step" (decimal ℓ ∷ decimal o ∷ [])
place_line (meet i os) = form "meet" (decimal i ∷ map decimal os)

-- nothing for a number that stands for no place
abbrev pub line_for : Option Place → List ℕ
line_for none = []
line_for (some p) = place_line p

-- "a refusal is the one line `(refused number line)`"
unfoldable pub refused_line : ℕ → ℕ → List ℕ
refused_line n ℓ = form "refused" (decimal n ∷ decimal ℓ ∷ [])

-- THE LISTING BESIDE A VERDICT: "verdict; number of reachable atomic states; each one by rising number ..; then the run", which is empty where the verdict is unreached
abbrev pub joined : List (List ℕ) → List ℕ
joined [] = []
joined (l ∷ ls) = l ++ joined ls

unfoldable pub listing_of : List ℕ → Model → Bool → List ℕ → List Place → List ℕ
listing_of text m reached states run = verdict_line reached ++ states_line (length states) ++ joined (map (atomic_line text m) states) ++ joined (map place_line run)

-- how long a line can be: that of an atomic state with 24 names of 16 bytes
abbrev pub longest : ℕ
longest = 9 + limit.states * (1 + limit.name)
