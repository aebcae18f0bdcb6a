-- THE RUN TABLE while a run is found from its end: its places stand in the table the last first.
use Rattle.std.specs.Prelude.{List, [], ◌∷◌, map, reverse, ℕ}
use Rattle.std.proofs.lemmas.List.Edits.{sets}
use Rattle.semantics.specs.Runs.{Place}
use Rattle.model.specs.Places.{number_of, Numerable}

-- the numbers of the places
abbrev pub numbers : List Place → List ℕ
numbers ps = map number_of ps

-- each place has a number that stands for it
abbrev pub AllNumerable : List Place → Type 0
AllNumerable [] = Unit {0}
AllNumerable (p ∷ ps) = Numerable p × AllNumerable ps

-- the table with the places ps from index k on, the last first, and elsewhere as it was
unfoldable pub backwards : List ℕ → ℕ → List Place → List ℕ
backwards run k ps = sets run k (reverse (numbers ps))
