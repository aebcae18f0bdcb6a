-- `listing::place_line` meets its contract.
use native.Mathlib.Omega.{arith}
use mathlib.Core.Path.{refl, sym, ◌∙◌}
use Rattle.model.specs.Places.{place_of}
use Rattle.listing_lines.proofs.place_line.Goals as goal

pub returns-in-Step : goal.returns-in-Step
unfolding place_of
returns-in-Step c =
    rw (sym c.place_of.ensures ∙ c.in-Step.is) c.step_line.ensures

pub returns-in-Meeting : goal.returns-in-Meeting
unfolding place_of
returns-in-Meeting c =
    rw (sym c.place_of.ensures ∙ c.in-Meeting.is) c.meet_line.ensures

pub returns-in-Malformed : goal.returns-in-Malformed
unfolding place_of
returns-in-Malformed c =
    rw (sym c.place_of.ensures ∙ c.in-Malformed.is) (record { room = omega arith; count = refl; front = refl; rest = refl })
