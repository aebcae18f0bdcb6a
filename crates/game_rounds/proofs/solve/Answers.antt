use mathlib.Core.Path.{◌≡◌}
use mathlib.Core.Logic.{inl, inr}
use Prim.Native.Nat.{ℕ, suc, ◌≤◌}
use Rattle.game_rounds.specs.Board.{board}
use Rattle.game_rounds.proofs.Numbers.{Agree, next-round, last-round}
use Rattle.game_rounds.proofs.solve.Goals as goal
use Rattle.game_rounds.proofs.solve.Goals.{At-loop-second, else-not-moved-via-then-not-moved+else-not-answered, else-not-moved-via-else-not-moved}

-- after k rounds
so : (c : At-loop-second) → let a = c.args in (k : ℕ) × (c.loop-second.round ≡ suc k) × (k ≤ 252) × Agree (board a.ours.now a.theirs.now a.met a.n) a.n k c.loop-second.first c.loop-second.second
so c = c.loop-second.invariant c.args.met c.requires c.outset-first.ensures

pub returns-then-not-answered : goal.returns-then-not-answered
returns-then-not-answered c =
    let a = c.args in
    let l = c.loop-second in
    let k = so (goal.at.returns-then-not-answered c).At-loop-second in
    let t = c.turn-moved in
    let u = c.turn-answered in
    last-round a.ours.now a.theirs.now a.met a.n c.requires k.0 l.round k.1 k.2 l.first l.second k.3 t.new.ranks t.result t.ensures u.new.ranks u.result u.ensures c.if-not-moved.true c.if-not-answered.true

pub loop-second-preserved : goal.loop-second-preserved
loop-second-preserved c =
    let a = c.args in
    let l = c.loop-second in
    let t = c.turn-moved in
    let u = c.turn-answered in
    λ M f h.
    let k = l.invariant M f h in
    next-round a.ours.now a.theirs.now M a.n f k.0 l.round k.1 k.2 l.first l.second k.3 t.new.ranks t.result t.ensures u.new.ranks u.result u.ensures
    (elim (c.else-not-moved.branch) [ else-not-moved-via-then-not-moved+else-not-answered w ↦ inr w.if-not-answered.false | else-not-moved-via-else-not-moved w ↦ inl w.if-not-moved.false ])
