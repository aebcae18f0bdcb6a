use mathlib.Core.Path.{◌≡◌, sym, ◌∙◌, subst}
use Prim.Native.Nat.{ℕ}
use Rattle.std.specs.Prelude as prelude
use Rattle.std.specs.Prelude.{is_some}
use Rattle.model.specs.Records.{stage_at, carried_at}
use Rattle.search_levels.specs.Levels.{holder}
use Rattle.model.specs.Lookups.{HasSeat}
use Rattle.witness_meetings.proofs.Laws.{has-variable, not-variable, carried-read}
use Rattle.witness_walk.proofs.holds.Goals as goal
use Rattle.witness_walk.proofs.holds.Goals.{After-seat}

-- the stage has the variable where it has a number for it
has : (c : After-seat) → (o : prelude.Option ℕ) → HasSeat (stage_at c.args.m c.args.k) (carried_at c.args.m c.args.v) o → is_some o ≡ holder c.args.m c.args.v c.args.k
has c (prelude.Some x) w = let a = c.args in let p = c.requires in sym (has-variable a.m p.0 a.k p.2 (carried_at a.m a.v) x w.0 w.1)
has c prelude.None w = let a = c.args in let p = c.requires in sym (not-variable a.m p.0 a.k p.2 (carried_at a.m a.v) w)

pub returns : goal.returns
returns c = c.is_some.ensures ∙ has (goal.at.returns c).After-seat c.seat.result (subst (λ (y : ℕ). HasSeat (stage_at c.args.m c.args.k) y c.seat.result) (carried-read c.args.m c.requires.0 c.args.v c.requires.1) c.seat.ensures)
