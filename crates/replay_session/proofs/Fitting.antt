-- The tests of a lent state together say whether it fits.
use mathlib.Core.Path.{◌≡◌}
use Rattle.std.specs.Prelude.{IfSome}
use mathlib.Core.Bool.{Bool, true, false}
use native.Mathlib.Omega.{arith}
use Prim.Native.Nat.{ℕ, ◌≤◌, ◌<◌}
use lib.ListN.{length, take, get_or, length-take}
use lib.Seq.{get_or-take}
use Rattle.limits.specs.Limits as limit
use Rattle.semantics.specs.Labels.{has}
use Rattle.model.specs.declared.Model.{Model}
use Rattle.model.specs.Records.{question_of}
use Rattle.model.specs.WellFormed.{declared_in}
use Rattle.replay_session.specs.declared.Session.{Session}
use Rattle.replay_session.specs.Sessions.{Says, carried_in}
use Rattle.replay_session.specs.Records.{Fits}

pub fits-says : (m : Model) (s : Session) (b : Bool) → length s.states ≡ 255 → s.objects ≤ 255 → s.met ≤ length (question_of m) → s.kept ≤ limit.run → ((v : ℕ) → v < limit.carried → IfSome (carried_in s v) (λ o. o < s.objects))
    → Says ((o a : ℕ) → o < length (take s.objects s.states) → has (get_or (take s.objects s.states) o 0) a ≡ true → a < declared_in m 0) b → Says (Fits m s) b
fits-says m s true n o t k c r = record { objects = o; relations = λ p a l e. r p a (rw length-take (omega arith)) (rw (get_or-take s.objects s.states p 0 l) e); stages = t; carried = c; places = k }
fits-says m s false n o t k c r = λ f. r (λ p a l e. let h : p < s.objects = omega (arith, length-take s.objects s.states) in f.relations p a h (rw (get_or-take s.objects s.states p 0 h) at e))
