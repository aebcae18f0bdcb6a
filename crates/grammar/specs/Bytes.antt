-- BYTES, WORDS AND LINES. A text is a list of bytes, each a number.
use Rattle.std.specs.Prelude.{Bool, true, false, if◌then◌else◌, not, ◌&&◌, ◌||◌, List, [], ◌∷◌, ℕ, ◌-◌, ◌==◌, nat_le, length}
use Prim.Native.Char.{code}
use Prim.Native.String.{String}
use Rattle.limits.specs.Limits as limit

-- the bytes of a quoted text
abbrev pub bytes : String → List ℕ
bytes String.[] = []
bytes (String.◌∷◌ c s) = code c ∷ bytes s

-- "A to Z, a to z"
abbrev pub letter : ℕ → Bool
letter b = nat_le 65 b && nat_le b 90 || nat_le 97 b && nat_le b 122

-- "digits"
abbrev pub digit : ℕ → Bool
digit b = nat_le 48 b && nat_le b 57

-- "letters or digits"
unfoldable pub alphanumeric : ℕ → Bool
alphanumeric b = letter b || digit b

-- the bytes of a line: "A to Z, a to z, digits, space, the brackets ( and )"
unfoldable pub allowed : ℕ → Bool
allowed b = alphanumeric b || b == 32 || b == 40 || b == 41

-- every byte passes the test
abbrev pub every : (ℕ → Bool) → List ℕ → Bool
every p [] = true
every p (b ∷ s) = p b && every p s

-- LINES. A line is ended by byte 10; what follows the last byte 10 is a line that is not ended, unless nothing does.
pub data Line : Type 0 where
  ended unended : List ℕ → Line

-- the byte stands at the beginning of the first line
abbrev pub in_front : ℕ → List Line → List Line
in_front b [] = unended (b ∷ []) ∷ []
in_front b (ended s ∷ ls) = ended (b ∷ s) ∷ ls
in_front b (unended s ∷ ls) = unended (b ∷ s) ∷ ls

abbrev pub lines : List ℕ → List Line
lines [] = []
lines (b ∷ s) = if b == 10 then ended [] ∷ lines s else in_front b (lines s)

-- WORDS
abbrev pub Word : Type 0
Word = List ℕ

-- two words are the same, "case counts"
abbrev pub same : Word → Word → Bool
same [] [] = true
same [] (c ∷ v) = false
same (b ∷ w) [] = false
same (b ∷ w) (c ∷ v) = b == c && same w v

-- "A NAME OR VARIABLE is 1 to 16 letters or digits, first a letter, and is not `not`"
unfoldable pub is_name : Word → Bool
is_name [] = false
is_name (b ∷ w) = letter b && every alphanumeric w && nat_le (length w) (limit.name - 1) && not (same (b ∷ w) (bytes "not"))
