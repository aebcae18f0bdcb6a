-- WHAT READING A HAND-IN ANSWERS, and how far it is read.
use Rattle.std.specs.Prelude.{◌≡◌, Bool, if◌then◌else◌, Option, Some, None, Result, Ok, Err, List, [], ◌∷◌, ℕ, suc, ◌+◌, ◌≤◌, ◌<◌, ◌==◌, length}
use Rattle.std.specs.Borrow.{Bor}
use Rattle.grammar.specs.Bytes.{Line, lines}
use Rattle.handin.specs.Handins.{Handin, says-no, says-yes, unreadable, content, follows, preface}
use Rattle.handin.specs.declared.Run.{Run}
use Rattle.handin.specs.declared.Unreadable.{Unreadable}
use Rattle.handin.specs.declared.Lines.{Lines}
use Rattle.handin.specs.declared.Start.{Start}

-- THE ANSWER: none for a no; of a run, how many places it has
abbrev pub told : Handin → Result (Option Run) Unreadable
told says-no = Ok None
told (says-yes first run) = Ok (Some (record { first = first; places = length run }))
told (unreadable line) = Err (record { line = line })

-- how many bytes the first line has before its byte 10
abbrev pub first_length : List ℕ → ℕ
first_length [] = 0
first_length (b ∷ s) = if b == 10 then 0 else suc (first_length s)

-- the first line of the bytes, and the bytes of the others
pub record Front (left line others : List ℕ) : Type 0 where
  pub whole : Line
  pub read : lines left ≡ whole ∷ lines others
  pub says : content whole ≡ line
  pub less : length others < length left

-- a step gives the first line that is left, and then the others are left
abbrev pub Gives : Lines → Option (Bor (List ℕ)) → Lines → Type 0
Gives s None t = s.left.now ≡ []
Gives s (Some line) t = Front s.left.now line.now t.left.now

-- the lines from line 2 on say nothing up to the line where s is
pub record PrefaceEnd (left : List ℕ) (s : Start) : Type 0 where
  pub small : s.line + length s.left.now ≤ length left + 2
  pub read : (reached : Bool) → preface reached 2 (lines left) ≡ follows reached s.line (lines s.left.now)
