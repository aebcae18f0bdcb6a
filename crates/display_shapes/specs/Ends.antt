-- WHERE WHAT A SPEC-LEVEL READER READS ENDS.
use Rattle.std.specs.Prelude.{◌≡◌, Option, Some, None, List, ℕ, ◌≤◌, ◌<◌, length, drop}
use Rattle.std.proofs.Math.Option.{none, some}
use Rattle.grammar.specs.Bytes.{bytes}
use Rattle.grammar.specs.Shapes.{Read, ◌>>=◌, after}

-- what stands after a space
abbrev pub after_space : {A : Type 0} → (List ℕ → Read A) → List ℕ → Read A
after_space read s = after (bytes " ") s >>= read

-- what is next is read, and ends at e
pub record EndsAt {A : Type 0} (read : List ℕ → Read A) (text : List ℕ) (at e : ℕ) : Type 0 where
  pub value : A
  pub begins : at < e
  pub ends : e ≤ length text
  pub found : read (drop at text) ≡ some (value, drop e text)

-- where what is next ends, if there is such a thing
abbrev pub Ends : {A : Type 0} → (List ℕ → Read A) → List ℕ → ℕ → Option ℕ → Type 0
Ends read text at None = read (drop at text) ≡ none
Ends read text at (Some e) = EndsAt read text at e
