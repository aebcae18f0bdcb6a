-- NUMBERS THAT FIT their codes.
use Rattle.std.specs.Prelude.{Option, Some, None, Result, Ok, Err, ◌≤◌}
use Rattle.words.specs.declared.Numbered.{Numbered}
use Rattle.limits.specs.Limits as limit
use Rattle.handin.specs.declared.Run.{Run}
use Rattle.handin.specs.declared.Unreadable as handin
use Rattle.marker_worth.specs.declared.Mark.{Mark}
use Rattle.marker_worth.specs.declared.Mark.TheVariants.{Unreadable, Right, Other, Breaks}
use Rattle.display_shapes.specs.declared.Span.{Span}
use Rattle.display.specs.declared.Declaration.{Declaration}

-- the run of a hand-in fits the table
abbrev pub ShortRun : Result (Option Run) handin.Unreadable → Type 0
ShortRun (Ok None) = Unit {0}
ShortRun (Ok (Some r)) = r.places ≤ limit.run
ShortRun (Err u) = Unit {0}

-- it breaks at one of its places, or at its end
abbrev pub LowPlace : Result Mark Numbered → Type 0
LowPlace (Err x) = Unit {0}
LowPlace (Ok (Unreadable l)) = Unit {0}
LowPlace (Ok Right) = Unit {0}
LowPlace (Ok (Other reached)) = Unit {0}
LowPlace (Ok (Breaks place l)) = place ≤ limit.run

-- a part stands in a line that is no longer than a text
abbrev pub Near : Option Span → Type 0
Near None = Unit {0}
Near (Some s) = (s.from ≤ limit.text) × (s.to ≤ limit.text)

-- a declared name stands in a text
abbrev pub NearName : Option Declaration → Type 0
NearName None = Unit {0}
NearName (Some d) = (d.from ≤ limit.text) × (d.size ≤ limit.text)
