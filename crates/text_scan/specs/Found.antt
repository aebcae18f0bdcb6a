-- What the readers of bytes find. Each looks at the bytes from a place of the text to its end, and says where what it read ends.
use Rattle.std.specs.Prelude.{◌≡◌, Bool, true, false, List, [], ◌∷◌, ℕ, ◌+◌, ◌≤◌, ◌<◌, length, drop}
use Rattle.std.proofs.Math.Option.{none, some}
use Rattle.std.proofs.Math.Seq.{slice}
use Rattle.grammar.specs.Bytes.{allowed, every, Line, ended, lines}
use Rattle.grammar.specs.Shapes.{after, word, after_word, name}
use Rattle.grammar.specs.Texts.{judge, bad}

-- whether the byte b is next
pub record NextByte (text : List ℕ) (at b : ℕ) (r : Bool) : Type 0 where
  pub found : r ≡ true → (at < length text) × (after (b ∷ []) (drop at text) ≡ some (drop (at + 1) text))
  pub missing : r ≡ false → after (b ∷ []) (drop at text) ≡ none

-- whether the bytes w are next
pub record NextBytes (text : List ℕ) (at : ℕ) (w : List ℕ) (r : Bool) : Type 0 where
  pub found : r ≡ true → (at + length w ≤ length text) × (after w (drop at text) ≡ some (drop (at + length w) text))
  pub missing : r ≡ false → after w (drop at text) ≡ none

-- the bytes w, which are next, end at e
pub record BytesEnd (text : List ℕ) (at : ℕ) (w : List ℕ) (e : ℕ) : Type 0 where
  pub begins : e ≡ at + length w
  pub ends : e ≤ length text
  pub read : after w (drop at text) ≡ some (drop e text)

-- the word that is next ends at e
pub record WordEnd (text : List ℕ) (at e : ℕ) : Type 0 where
  pub begins : at ≤ e
  pub ends : e ≤ length text
  pub read : word (drop at text) ≡ slice at e text
  pub left : after_word (drop at text) ≡ drop e text

-- the name that is next ends at e
pub record NameEnd (text : List ℕ) (at e : ℕ) : Type 0 where
  pub begins : at < e
  pub ends : e ≤ length text
  pub read : name (drop at text) ≡ some (slice at e text, drop e text)

-- row 2 refuses the line that is next
abbrev pub BadLine : List ℕ → ℕ → Type 0
BadLine text at = (l : Line) × (ls : List Line) × (lines (drop at text) ≡ l ∷ ls) × (judge l ≡ bad 2)

-- the line that is next ends at byte 10, which stands at e
pub record LineEnd (text : List ℕ) (at e : ℕ) : Type 0 where
  pub begins : at ≤ e
  pub ends : e < length text
  pub good : every allowed (slice at e text) ≡ true
  pub read : lines (drop at text) ≡ ended (slice at e text) ∷ lines (drop (e + 1) text)
