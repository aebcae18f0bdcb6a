-- WHAT A READER KEEPS OF A LINE'S WORDS. Nothing of what a text says rests on it.
use Rattle.std.specs.Prelude.{◌≡◌, Bool, true, false, ◌&&◌, List, [], ◌∷◌}
use Rattle.grammar.specs.Bytes.{Word}
use Rattle.grammar.specs.Declarations.{member}

-- no word is twice in the list
abbrev pub Distinct : List Word → Type 0
Distinct [] = Unit {0}
Distinct (x ∷ xs) = (member x xs ≡ false) × Distinct xs

-- each mark is set
abbrev pub all_marked : List Bool → Bool
all_marked [] = true
all_marked (m ∷ ms) = m && all_marked ms
