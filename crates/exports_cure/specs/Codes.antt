-- THE NUMBER OF AN ANSWER: kind × 2^32 + value; and the cells beside it.
use Rattle.std.specs.Prelude.{List, replicate, ℕ, ◌≤◌, Option, Some, None, Result, Ok, Err}
use Rattle.rows.specs.Rows.{number_of}
use Rattle.rows.specs.declared.Refusal.{Refusal}
use Rattle.words.specs.Words.{code, refusal}
use Rattle.striking.specs.Striking.{most}
use Rattle.strike_list.specs.declared.Lines.{Lines}

-- kind 2 is a refusal, with number × 65,536 + line; kind 11 lines to strike, with how many; kind 12 that no choice does
abbrev pub coded : Result (Option Lines) Refusal → ℕ
coded (Ok (Some l)) = code 11 l.count
coded (Ok None) = code 12 0
coded (Err x) = refusal (number_of x.row) x.line

-- the lines to strike by rising number, with zeros behind them; zeros beside any other answer
abbrev pub cells : Result (Option Lines) Refusal → List ℕ
cells (Ok (Some l)) = l.lines
cells (Ok None) = replicate most 0
cells (Err x) = replicate most 0

-- at most ten lines are to be struck
abbrev pub Few : Result (Option Lines) Refusal → Type 0
Few (Ok (Some l)) = l.count ≤ most
Few (Ok None) = Unit {0}
Few (Err x) = Unit {0}
