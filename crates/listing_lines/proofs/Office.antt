-- Document 01's office text, and both of its listings; the line of the empty state, and a few more.
use mathlib.Core.Path.{◌≡◌, refl}
use mathlib.Core.Bool.{true, false}
use mathlib.Core.List.{List, [], ◌∷◌}
use Prim.Native.Nat.{ℕ, zero, suc, ◌+◌, ◌≤◌, ◌<◌}
use native.Mathlib.Omega.{arith}
use lib.ListN.{length, get_or}
use Rattle.semantics.specs.Labels.{has}
use Rattle.semantics.specs.Runs.{step, meet}
use Rattle.semantics.proofs.Tools.{has-empty}
use Rattle.model.specs.declared.Model.{Model}
use Rattle.model.specs.Records.{name_of}
use Rattle.model.specs.Places.{placed, place_of}
use Rattle.model.proofs.Office.{office}
use Rattle.listing_bytes.specs.Numerals.{decimal}
use Rattle.listing_bytes.specs.Forms.{bytes}
use Rattle.listing_lines.specs.Lines.{verdict_line, states_line, names_in, atomic_line, place_line, refused_line, line_for, listing_of, Named}

abbrev pub text : List ℕ
text = bytes "(state Admin)\n(state User)\n(rel Control 1)\n(new (Admin))\n(new (User))\n(next x (Admin) () (User x) (Admin y))\n(rule (Control x) (Admin x))\n(ask ((User x) (not (Admin x))) ((Control x)))\n"

-- what the lines of atomic states rest on is met
pub office-named : Named text office
office-named = record { within = λ i h. (go i h).0; short = λ i h. (go i h).1 }
  where
    go : (i : ℕ) → i < 3 → ((name_of office i).start + (name_of office i).len ≤ length text) × ((name_of office i).len ≤ 16)
    go zero h = omega arith
    go (suc zero) h = omega arith
    go (suc (suc zero)) h = omega arith
    go (suc (suc (suc i))) h = absurd (omega arith)

pub unreached-listing : listing_of text office false (1 ∷ 2 ∷ 3 ∷ []) [] ≡ bytes "(verdict unreached)\n(states 3)\n(atomic Admin)\n(atomic User)\n(atomic Admin User)\n"
unfolding listing_of verdict_line states_line atomic_line decimal has
unreached-listing = refl

pub reached-listing : listing_of text office true (1 ∷ 2 ∷ 3 ∷ []) (step 4 0 ∷ step 5 1 ∷ meet 1 (1 ∷ []) ∷ step 6 1 ∷ meet 2 (1 ∷ []) ∷ [])
    ≡ bytes "(verdict reached)\n(states 3)\n(atomic Admin)\n(atomic User)\n(atomic Admin User)\n(step 4 0)\n(step 5 1)\n(meet 1 1)\n(step 6 1)\n(meet 2 1)\n"
unfolding listing_of verdict_line states_line atomic_line place_line decimal has
reached-listing = refl

-- THE EMPTY STATE "is listed as `(atomic)`", in every text
no_names : (text : List ℕ) (m : Model) (i : ℕ) → names_in text m 0 i ≡ []
no_names text m zero = refl
no_names text m (suc i) = rw (has-empty (get_or m.relations.codes i 0), no_names text m i)

pub empty-line : (text : List ℕ) (m : Model) → atomic_line text m 0 ≡ bytes "(atomic)\n"
unfolding atomic_line
empty-line text m = rw (no_names text m m.relations.count)

-- the empty text; a meeting that names no object; a number that stands for no place
pub refused-empty : refused_line 1 0 ≡ bytes "(refused 1 0)\n"
unfolding refused_line decimal
refused-empty = refl

pub meet-none : line_for (place_of 2181038079) ≡ bytes "(meet 1)\n"
unfolding place_of placed place_line decimal
meet-none = refl

pub no_place : line_for (place_of 1279) ≡ []
unfolding place_of placed
no_place = refl
