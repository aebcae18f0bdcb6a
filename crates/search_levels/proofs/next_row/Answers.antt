use native.Mathlib.Omega.{arith}
use Rattle.search_levels.specs.Levels.{pair_at}
use Rattle.search_levels.proofs.Passing.{second_below, paired-all, paired-met, paired_none}
use Rattle.search_levels.proofs.next_row.Goals as goal

pub returns-then-is_none : goal.returns-then-is_none
returns-then-is_none c =
    let a = c.args in
    λ S R n. paired-all S a.work.now a.body.now a.ways.now a.t (pair_at a.rows.now a.k) a.f c.led-pairs.result a.able c.both-row.result c.led-pairs.ensures (c.requires.3 S R n) c.both-row.ensures (rw c.if-is_none.true at c.is_none.ensures)

pub returns-then-f-slots : goal.returns-then-f-slots
returns-then-f-slots c =
    let a = c.args in
    λ S R n. paired-met S a.work.now a.body.now a.ways.now a.t (pair_at a.rows.now a.k) a.f c.led-pairs.result a.able c.both-row.result c.led-pairs.ensures (c.requires.3 S R n) c.both-row.ensures c.met.result (c.met.ensures S R n)

pub returns : goal.returns
returns c =
    let a = c.args in
    λ S R n. paired_none S a.work.now a.body.now a.ways.now a.t (pair_at a.rows.now a.k) a.f
    (λ e q. absurd (omega (arith, c.if-f-slots.false, second_below a.work.now a.slots.now a.body.now a.t c.requires.0 S n (rw c.if-is_none.false at c.is_none.ensures) e a.f q)))
