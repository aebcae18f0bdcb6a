-- THE STARRED CASES of "Models to check by hand" in one list, each with its text: what the text is answered, and what is said of the very program and question that it gives.
use Rattle.std.specs.Prelude.{◌≡◌, List, [], ◌∷◌, ℕ}
use Prim.Native.String.{String}
use Rattle.semantics.specs.Cases as meaning
use Rattle.semantics.specs.Cases.{prevented, promoted, removed, uncreated, again, forth, unreturned, another, pair}
use Rattle.grammar.specs.Bytes.{bytes}
use Rattle.grammar.specs.Declarations.{Declared}
use Rattle.grammar.specs.Texts as grammar
use Rattle.grammar.specs.Texts.{outcome}

-- a text that is refused, with the refusal's number and line; or one that is accepted, with the names that it declares and the case that it gives
pub data Case : Type 0 where
  refused : String → ℕ → ℕ → Case
  accepted : String → Declared → meaning.Case → Case

abbrev pub True : Case → Type 0
True (refused text n l) = outcome (bytes text) ≡ grammar.refused n l
True (accepted text D c) = (outcome (bytes text) ≡ grammar.accepted D c.program c.question) × meaning.True c

abbrev pub AllTrue : List Case → Type 0
AllTrue [] = Unit {0}
AllTrue (c ∷ cs) = True c × AllTrue cs

-- the names of the office, and the states A, B, with their codes
abbrev pub office : Declared
office = (bytes "Admin", 0) ∷ (bytes "User", 1) ∷ (bytes "Control", 64) ∷ []

abbrev pub ab : Declared
ab = (bytes "A", 0) ∷ (bytes "B", 1) ∷ []

-- in document 01's order
abbrev pub starred : List Case
starred =
    refused "" 1 0
    ∷ accepted "(state Admin)\n(state User)\n(rel Control 1)\n(new (Admin))\n(new (User))\n(next x (Admin) () (User x) (Admin y))\n(rule (Control x) (Admin x))\n(ask ((User x) (not (Admin x)) (Control x)))\n" office prevented
    ∷ accepted "(state Admin)\n(state User)\n(rel Control 1)\n(new (Admin))\n(new (User))\n(next x (Admin) () (User x) (Admin y))\n(rule (Control x) (Admin x))\n(ask ((User x) (not (Admin x))) ((Control x)))\n" office promoted
    ∷ accepted "(state A)\n(state B)\n(next x (A) (A) (B x))\n(ask ((A x)))\n" ab removed
    ∷ accepted "(state A)\n(state B)\n(new (A) (A y))\n(ask ((A x)))\n" ab uncreated
    ∷ accepted "(state A)\n(state B)\n(new (A))\n(ask ((A x)) ((A x)))\n" ab again
    ∷ accepted "(state A)\n(state B)\n(new (A))\n(next x (B) (A) (A x))\n(ask ((A x)) ((B x)))\n" ab forth
    ∷ accepted "(state A)\n(state B)\n(new (A))\n(next x (B) (A) (A x))\n(ask ((B x)) ((A x)))\n" ab unreturned
    ∷ accepted "(state A)\n(state B)\n(new (A))\n(next x (B) (A) (A x))\n(ask ((B x)) ((A y)))\n" ab another
    ∷ accepted "(state A)\n(state B)\n(new (A))\n(next x (B) (A) (A x))\n(ask ((A x) (B y)))\n" ab pair
    ∷ []
