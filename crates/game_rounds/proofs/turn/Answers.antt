use mathlib.Core.Path.{sym, ap, ◌∙◌}
use Prim.Native.Nat.{◌+◌}
use native.Mathlib.Omega.{arith}
use Rattle.std.specs.Prelude.{is_some}
use Rattle.game_rounds.specs.Board.{side_of}
use Rattle.game_rounds.proofs.Turning.{none-so, some-so, Partly, partly-given, partly-kept, kept-none, kept-own, partly-all}
use Rattle.game_rounds.proofs.turn.Goals as goal
use Rattle.game_rounds.proofs.turn.Goals.{Joined-is_none, then-is_none+then-ready, else-is_none, else-is_none-via-then-is_none+else-ready, else-is_none-via-else-is_none}

-- after slot e
step : (c : Joined-is_none) → let a = c.args in Partly (side_of a.side) a.moves.now a.n a.ranks.now a.others.now a.round (c.loop-e.e + 1) c.if-is_none.ranks c.if-is_none.changed
step c =
    let a = c.args in
    let l = c.loop-e in
    let p = l.invariant in
    let kept = partly-kept (side_of a.side) a.moves.now a.n a.ranks.now a.others.now a.round l.e l.ranks l.changed p in
    elim (c.if-is_none.branch) [
      | then-is_none+then-ready w ↦ rw (w.ranks-is, w.changed-is) (partly-given (side_of a.side) a.moves.now a.n a.ranks.now a.others.now a.round l.e l.ranks l.changed p (omega arith) (none-so _ c.is_none.result c.is_none.ensures w.if-is_none.true) (sym w.ready.ensures ∙ w.if-ready.true))
      | else-is_none w ↦ rw (w.ranks-is, w.changed-is) (kept (elim (w.else-is_none.branch) [
        | else-is_none-via-then-is_none+else-ready v ↦ kept-none (side_of a.side) a.moves.now a.n a.ranks.now a.others.now a.round l.e (sym v.ready.ensures ∙ v.if-ready.false)
        | else-is_none-via-else-is_none v ↦ kept-own (side_of a.side) a.moves.now a.n a.ranks.now a.others.now a.round l.e (ap is_some (sym (p.rest l.e (omega arith))) ∙ some-so _ c.is_none.result c.is_none.ensures v.if-is_none.false)
      ]))
    ]

pub loop-e-preserved : goal.loop-e-preserved
loop-e-preserved c = step (goal.at.loop-e-preserved c).Joined-is_none

pub returns-after-is_none : goal.returns-after-is_none
returns-after-is_none c =
    let a = c.args in
    partly-all (side_of a.side) a.moves.now a.n a.ranks.now a.others.now a.round (c.loop-e.e + 1) c.if-is_none.ranks c.if-is_none.changed (omega arith) (step (goal.at.returns-after-is_none c).Joined-is_none)
