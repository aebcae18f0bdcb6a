-- THE LIST OF LINES as the calls have it. What a faulty list is, and the order of its lines, is said in `striking`.
use Rattle.std.specs.Prelude.{Bool, true, false, if◌then◌else◌, ◌&&◌, List, [], ◌∷◌, ◌++◌, ℕ, ◌-◌, length, take, replicate}
use Rattle.semantics.specs.Models.{elem, Program}
use Rattle.model.specs.declared.Action.{Action}
use Rattle.model.specs.declared.Action.TheVariants.{Rule, New, Next}
use Rattle.striking.specs.Striking.{strikable, most}
use Rattle.strike_list.specs.declared.Lines.{Lines}

-- the record of these lines: zeros stand behind them
abbrev pub padded : List ℕ → List ℕ
padded C = C ++ replicate (most - length C) 0

abbrev pub shown : List ℕ → Lines
shown C = record { lines = padded C; count = length C }

-- the lines of a record
abbrev pub listed : Lines → List ℕ
listed l = take l.count l.lines

-- a clause of this action may be struck
abbrev pub free : Action → Bool
free (Rule r n) = false
free (New s) = true
free (Next plus minus) = true

-- HOW THE LIST IS JUDGED: the listed lines that may be struck, in the order of the program. The list is good exactly if they are as many as its lines.
abbrev pub named : Program → List ℕ → List ℕ
named [] L = []
named (c ∷ P) L = if strikable c.1 && elem c.0 L then c.0 ∷ named P L else named P L
