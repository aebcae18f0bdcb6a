-- THE NUMBERS OF ANSWERS: kind × 2^32 + value; of what is shown: where it begins × 2^32, and what else there is to say of it.
use Rattle.std.specs.Prelude.{if◌then◌else◌, Option, Some, None, Result, Ok, Err, ℕ, ◌+◌, ◌*◌}
use Rattle.words.specs.declared.Numbered.{Numbered}
use Rattle.words.specs.Words.{code, refusal}
use Rattle.handin.specs.declared.Run.{Run}
use Rattle.handin.specs.declared.Unreadable as handin
use Rattle.marker_worth.specs.declared.Mark.{Mark}
use Rattle.marker_worth.specs.declared.Mark.TheVariants.{Unreadable, Right, Other, Breaks}
use Rattle.display_shapes.specs.declared.Span.{Span}
use Rattle.display.specs.declared.Declaration.{Declaration}

-- WHAT A HAND-IN SAYS: kind 5 is unreadable, with the line; kind 9 no; kind 10 yes, with places × 65,536 + the line of the first
abbrev pub handed : Result (Option Run) handin.Unreadable → ℕ
handed (Ok None) = code 9 0
handed (Ok (Some r)) = code 10 (r.places * 65536 + r.first)
handed (Err u) = code 5 u.line

-- THE MARK: kind 2 is refused, with number × 65,536 + line; kind 5 unreadable, with the line; kind 6 right; kind 7 the other verdict, with 1 where that is reached; kind 8 a run that breaks, with place × 65,536 + line
abbrev pub marked : Result Mark Numbered → ℕ
marked (Err x) = refusal x.number x.line
marked (Ok (Unreadable l)) = code 5 l
marked (Ok Right) = code 6 0
marked (Ok (Other reached)) = code 7 (if reached then 1 else 0)
marked (Ok (Breaks place l)) = code 8 (place * 65536 + l)

-- A PART OF A LINE: where it begins, and where it ends; 0 where there is none
abbrev pub spanned : Option Span → ℕ
spanned None = 0
spanned (Some s) = s.from * 4294967296 + s.to

-- A DECLARED RELATION: where its name begins, the name's bytes, and its code; 0 where there is none
abbrev pub declared : Option Declaration → ℕ
declared None = 0
declared (Some d) = d.from * 4294967296 + (d.size * 65536 + d.code)
