-- WORKED EXAMPLES of hand-ins, computed from the definitions.
use mathlib.Core.Path.{◌≡◌, refl}
use mathlib.Core.Bool.{true}
use mathlib.Core.List.{List, [], ◌∷◌, map}
use Prim.Native.Nat.{ℕ, zero, suc, ◌<◌}
use Prim.Native.String.{String}
use native.Mathlib.Omega.{arith}
use Rattle.semantics.specs.Runs.{Place, step, meet}
use Rattle.model.proofs.Office.{office}
use Rattle.grammar.specs.Bytes.{bytes, alphanumeric, is_name}
use Rattle.grammar.specs.Shapes.{rest}
use Rattle.listing_lines.specs.Lines.{name_at, listing_of}
use Rattle.listing_lines.proofs.Office.{text, reached-listing}
use Rattle.handin_lines.specs.Lines.{verdict, is_numeral, number, below, letters, states_rest, atomic_rest, step_rest, meet_rest, line, said_by}
use Rattle.handin.specs.Handins.{Handin, says-no, says-yes, unreadable, onwards, follows, preface, read_lines, reading}
use Rattle.handin.proofs.Printing.{read_back}

-- a hand-in with what it says
abbrev pub Example : Type 0
Example = String × Handin

unfoldable pub examples : List Example
examples =
    ("no\n", says-no) ∷
    ("no", says-no) ∷
    ("(verdict unreached)\n(states 3)\n(atomic Admin)\n(atomic User)\n(atomic Admin User)\n", says-no) ∷
    ("yes", says-yes 2 []) ∷
    ("yes\n(step 4 0)\n(meet 1 0)", says-yes 2 (step 4 0 ∷ meet 1 (0 ∷ []) ∷ [])) ∷ (
      "(verdict reached)\n(states 3)\n(atomic Admin)\n(atomic User)\n(atomic Admin User)\n(step 4 0)\n(step 5 1)\n(meet 1 1)\n(step 6 1)\n(meet 2 1)\n",
      says-yes 6 (step 4 0 ∷ step 5 1 ∷ meet 1 (1 ∷ []) ∷ step 6 1 ∷ meet 2 (1 ∷ []) ∷ []),
    ) ∷
    ("yes\n(atomic)\n(states 99999999999999999999)\n(atomic 1 a2)\n", says-yes 5 []) ∷
    ("yes\n(meet 127 254 0 7)\n(meet 1)\n(step 8388607 254)\n", says-yes 2 (meet 127 (254 ∷ 0 ∷ 7 ∷ []) ∷ meet 1 [] ∷ step 8388607 254 ∷ [])) ∷
    ("", unreadable 1) ∷
    ("\n", unreadable 1) ∷
    ("Yes\n", unreadable 1) ∷
    ("yes \n", unreadable 1) ∷
    ("yes\r\n", unreadable 1) ∷
    ("(step 4 0)\n", unreadable 1) ∷
    ("no\n(step 4 0)\n", unreadable 2) ∷
    ("no\n(atomic)\n\n", unreadable 3) ∷
    ("yes\n\n", unreadable 2) ∷
    ("yes\n(step 4 0)\n(states 3)\n", unreadable 3) ∷
    ("yes\n(step 4 0)\n(atomic)\n", unreadable 3) ∷
    ("yes\n(states)\n", unreadable 2) ∷
    ("yes\n(states 03)\n", unreadable 2) ∷
    ("yes\n(atomic  Admin)\n", unreadable 2) ∷
    ("yes\n(atomic )\n", unreadable 2) ∷
    ("yes\n(step 04 0)\n", unreadable 2) ∷
    ("yes\n(step 4 255)\n", unreadable 2) ∷
    ("yes\n(step 8388608 0)\n", unreadable 2) ∷
    ("yes\n(step 4  0)\n", unreadable 2) ∷
    ("yes\n(step 4)\n", unreadable 2) ∷
    ("yes\n(step 4 0) \n", unreadable 2) ∷
    ("yes\n(meet)\n", unreadable 2) ∷
    ("yes\n(meet 128)\n", unreadable 2) ∷
    ("yes\n(meet 1 255)\n", unreadable 2) ∷
    ("yes\n(meet 1 0 1 2 3)\n", unreadable 2) ∷
    []

pub table : map (λ (e : Example). reading (bytes e.0)) examples ≡ map (λ (e : Example). e.1) examples
unfolding examples alphanumeric rest verdict is_numeral number below letters states_rest atomic_rest step_rest meet_rest line said_by onwards follows preface read_lines reading
table = refl

-- THE OFFICE LISTING of document 01 meets what the law of the listing asks
office-names : (i : ℕ) → i < office.relations.count → is_name (name_at text office i) ≡ true
unfolding is_name alphanumeric
office-names zero h = refl
office-names (suc zero) h = refl
office-names (suc (suc zero)) h = refl
office-names (suc (suc (suc i))) h = absurd (omega arith)

abbrev pub office-run : List Place
office-run = step 4 0 ∷ step 5 1 ∷ meet 1 (1 ∷ []) ∷ step 6 1 ∷ meet 2 (1 ∷ []) ∷ []

pub office-back : reading (listing_of text office true (1 ∷ 2 ∷ 3 ∷ []) office-run) ≡ says-yes 6 office-run
office-back = read_back text office office-names (1 ∷ 2 ∷ 3 ∷ []) office-run (omega arith) (omega arith) (rw reached-listing (omega arith))
