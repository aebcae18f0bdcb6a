-- CALLS OVER A TEXT: what the table answers to a call, with the buffers that are lent to it.
use Rattle.std.specs.Prelude.{Bool, if◌then◌else◌, ◌||◌, List, ℕ, ◌==◌, nat_lt, length, Result, MatchResult}
use Rattle.limits.specs.Limits as limit
use Rattle.rows.specs.declared.Refusal.{Refusal}
use Rattle.grammar.specs.Texts.{Outcome, refused, outcome}

-- the row that is given before the lines, or 0: 1, "no bytes, or over 16,384"; 12, where a lent buffer is too short; 14, where a run is too long
unfoldable pub early : ℕ → Bool → Bool → ℕ
early bytes short long = if bytes == 0 || nat_lt limit.text bytes then 1 else (if short then 12 else (if long then 14 else 0))

-- row 12, with the figures of document 02: a work area under 65,536 bytes (R-6), "or a run table lent for writing" under 9,344 places, R-1's table too (R-5)
abbrev pub short : ℕ → ℕ → Bool
short bytes places = nat_lt bytes limit.work || nat_lt places limit.run

-- THE ANSWER TO A CALL. "Order: 1, 12, 14, then line by line"; "line 0 for 1, 12 .. and 14"
unfoldable pub called : List ℕ → Bool → Bool → Outcome
called text short long = if early (length text) short long == 0 then outcome text else refused (early (length text) short long) 0

-- an answer that refuses nothing, and of which P holds
abbrev pub Gives : {A : Type 0} → (A → Type 0) → Result A Refusal → Type 0
Gives P r = MatchResult r P (λ _. ⊥)
