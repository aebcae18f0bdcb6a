-- THE NUMBER OF AN ANSWER: kind × 2^32 + value.
use Rattle.std.specs.Prelude.{ℕ, ◌≤◌, Option, Some, None, Result, Ok, Err}
use Rattle.rows.specs.Rows.{number_of}
use Rattle.rows.specs.declared.Refusal.{Refusal}
use Rattle.words.specs.Words.{code, refusal}
use Rattle.limits.specs.Limits as limit

-- kind 2 is a refusal, with number × 65,536 + line; kind 16 a shortest way, with the number of its steps; kind 17 that there is no way
abbrev pub coded : Result (Option ℕ) Refusal → ℕ
coded (Ok (Some n)) = code 16 n
coded (Ok None) = code 17 0
coded (Err x) = refusal (number_of x.row) x.line

-- a way has at most 127 steps
abbrev pub Few : Result (Option ℕ) Refusal → Type 0
Few (Ok (Some n)) = n ≤ limit.atomic
Few (Ok None) = Unit {0}
Few (Err x) = Unit {0}
