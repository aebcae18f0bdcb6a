-- THE MARK BY THE VERDICT, for a no and for a run that breaks.
use Rattle.std.specs.Prelude.{◌≡◌, ◌⊎◌, Result, Ok}
use Rattle.rows.specs.Rows.{Refuses}
use Rattle.rows.specs.declared.Refusal.{Refusal}
use Rattle.semantics.specs.Models.{Program, Question}
use Rattle.semantics.specs.Questions.{Reached}
use Rattle.marker_worth.specs.declared.Mark.{Mark}
use Rattle.calls.specs.Crowding.{Crowded, too_many}

-- r is the refusal where there are too many states for a verdict; else the first mark where the question is reached, and the second where it is not
abbrev pub Judged : Program → Question → Mark → Mark → Result Mark Refusal → Type 0
Judged P Q reached unreached r = (Crowded P × Refuses too_many 0 r) ⊎ ((Crowded P → ⊥) × ((Reached P Q × (r ≡ Ok reached)) ⊎ ((Reached P Q → ⊥) × (r ≡ Ok unreached))))
