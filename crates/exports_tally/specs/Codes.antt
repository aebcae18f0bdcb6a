-- THE NUMBER OF AN ANSWER: kind × 2^32 + value; and the cells beside it.
use Rattle.std.specs.Prelude.{List, [], ◌∷◌, ℕ, replicate, Result, Ok, Err}
use Rattle.rows.specs.Rows.{number_of}
use Rattle.rows.specs.declared.Refusal.{Refusal}
use Rattle.words.specs.Words.{code, refusal}
use Rattle.tally.specs.declared.Count.{Count}

-- kind 2 is a refusal, with number × 65,536 + line; kind 13 is counted
abbrev pub coded : Result Count Refusal → ℕ
coded (Ok c) = code 13 0
coded (Err x) = refusal (number_of x.row) x.line

-- the reached and the unreached choices, the reached share in whole hundredths and its remainder; zeros beside a refusal
abbrev pub counts : Result Count Refusal → List ℕ
counts (Ok c) = c.reached ∷ c.unreached ∷ c.share ∷ c.remainder ∷ []
counts (Err x) = replicate 4 0
