-- HAND-INS: what a hand-in says, line by line.
use Rattle.std.specs.Prelude.{Bool, true, false, if◌then◌else◌, List, [], ◌∷◌, ◌++◌, ℕ, suc, ◌+◌, nat_lt, length}
use Rattle.std.proofs.Math.Option.{none, some}
use Rattle.limits.specs.Limits as limit
use Rattle.semantics.specs.Runs.{Place}
use Rattle.grammar.specs.Bytes.{Line, ended, unended, lines}
use Rattle.handin_lines.specs.Lines.{verdict, nothing, place, said_by}

-- A HAND-IN says no; or it says yes and gives a run, whose place i, from 0, stands on line first + i; or it is unreadable at a line
pub data Handin : Type 0 where
  says-no : Handin
  says-yes : ℕ → List Place → Handin
  unreadable : ℕ → Handin

-- a last line that is not ended is read like one that is
abbrev pub content : Line → List ℕ
content (ended s) = s
content (unended s) = s

-- THE RUN, "one place a line", after the places ps, of which the first stands on line `first`
unfoldable pub onwards : ℕ → List Place → List Line → Handin
onwards first ps [] = says-yes first ps
onwards first ps (l ∷ ls) = elim (said_by (content l)) [
  | none ↦ unreadable (first + length ps)
  | some nothing ↦ unreadable (first + length ps)
  | some (place p) ↦ if nat_lt (length ps) limit.run then onwards first (ps ++ p ∷ []) ls else unreadable (first + length ps)
]

-- the lines from line n on: the run, "for a yes"; none, for a no
unfoldable pub follows : Bool → ℕ → List Line → Handin
follows true n ls = onwards n [] ls
follows false n [] = says-no
follows false n (l ∷ ls) = unreadable n

-- before them, "lines `(states n)` and `(atomic ..)` may stand .. and say nothing"
unfoldable pub preface : Bool → ℕ → List Line → Handin
preface reached n [] = follows reached n []
preface reached n (l ∷ ls) = elim (said_by (content l)) [
  | none ↦ follows reached n (l ∷ ls)
  | some nothing ↦ preface reached (suc n) ls
  | some (place p) ↦ follows reached n (l ∷ ls)
]

-- the first line, and the others
unfoldable pub read_lines : List Line → Handin
read_lines [] = unreadable 1
read_lines (l ∷ ls) = elim (verdict (content l)) [ none ↦ unreadable 1 | some reached ↦ preface reached 2 ls ]

-- WHAT A HAND-IN SAYS
unfoldable pub reading : List ℕ → Handin
reading handin = if nat_lt limit.handin (length handin) then unreadable 0 else read_lines (lines handin)
