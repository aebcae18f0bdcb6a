-- THE NUMBER OF AN ANSWER: kind × 2^32 + value.
use Rattle.std.specs.Prelude.{ℕ, ◌≤◌, Result, Ok, Err}
use Rattle.words.specs.Words.{refusal}
use Rattle.words.specs.Words as words
use Rattle.words.specs.declared.Numbered.{Numbered}
use Rattle.limits.specs.Limits as limit

-- kind 2 is refused, with number × 65,536 + line; kind 14 written, with the text's length
abbrev pub code : Result ℕ Numbered → ℕ
code (Err x) = refusal x.number x.line
code (Ok n) = words.code 14 n

-- the text is no longer than a text may be
abbrev pub ShortText : Result ℕ Numbered → Type 0
ShortText (Err x) = Unit {0}
ShortText (Ok n) = n ≤ limit.text
