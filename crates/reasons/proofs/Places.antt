-- Why a place, by its number, is not allowed.
use mathlib.Core.Path.{◌≡◌, sym, ap, ◌∙◌, subst}
use mathlib.Core.Option.{some, none-ne-some, some-injective}
use Prim.Native.Nat.{ℕ, ◌≤◌}
use native.Mathlib.Omega.{arith}
use Rattle.semantics.specs.Runs as runs
use Rattle.model.specs.declared.Model.{Model}
use Rattle.model.specs.declared.Place.TheVariants.{Malformed}
use Rattle.model.specs.Places.{placed, stands_for, place_of}
use Rattle.model.specs.WellFormed.{WellFormed}
use Rattle.model.proofs.Accepted.{stages}
use Rattle.replay_session.specs.declared.Session.{Session}
use Rattle.reasons.specs.declared.Reason.{Reason}
use Rattle.reasons.specs.declared.Reason.TheVariants.{Done}
use Rattle.reasons.specs.Reasons.{Explains}

-- nothing follows the last meeting
pub done : (m : Model) (s : Session) → WellFormed m → m.stagecount ≤ s.met → (p : runs.Place) → Explains m s p Done
done m s w l p h = let q = stages m w in omega arith

-- the number has one place, or none
pub explains-at : (m : Model) (s : Session) (n : ℕ) (r : Reason) (q : runs.Place) → place_of n ≡ some q → Explains m s q r → (p : runs.Place) → place_of n ≡ some p → Explains m s p r
explains-at m s n r q e h p f = subst (λ (x : runs.Place). Explains m s x r) (some-injective q p (sym e ∙ f)) h

pub explains-nowhere : (m : Model) (s : Session) (n : ℕ) (r : Reason) → placed n ≡ Malformed → (p : runs.Place) → place_of n ≡ some p → Explains m s p r
unfolding place_of
explains-nowhere m s n r e p f = absurd (none-ne-some p (sym (ap stands_for e) ∙ f))
