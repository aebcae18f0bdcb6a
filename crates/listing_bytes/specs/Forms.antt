-- FORMS: "one form a line, ended by byte 10. Items in a bracket are parted by exactly one space; none stands elsewhere."
use Rattle.std.specs.Prelude.{List, [], ◌∷◌, ◌++◌, ℕ}
use Prim.Native.Char.{code}
use Prim.Native.String.{String}

-- the bytes of a quoted text
abbrev pub bytes : String → List ℕ
bytes String.[] = []
bytes (String.◌∷◌ c s) = code c ∷ bytes s

-- items in a bracket, each after "exactly one space"
abbrev pub items : List (List ℕ) → List ℕ
items [] = []
items (w ∷ ws) = bytes " " ++ w ++ items ws

-- the line of the form `(word item ..)`
abbrev pub form : String → List (List ℕ) → List ℕ
form word ws = bytes "(" ++ bytes word ++ items ws ++ bytes ")\n"
