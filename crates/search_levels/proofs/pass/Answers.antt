use mathlib.Core.Path.{◌≡◌, sym, subst}
use Prim.Native.Nat.{ℕ, suc, ◌+◌, ◌*◌, ◌<◌}
use native.Mathlib.Omega.{arith}
use Rattle.limits.specs.Limits as limit
use Rattle.facts_bits.specs.Bits.{Joined}
use Rattle.search_levels.specs.Levels.{pair_at}
use Rattle.search_levels.proofs.Rows.{has-so}
use Rattle.search_levels.proofs.Passing.{led-so}
use Rattle.search_levels.proofs.Filling.{written-more, rows_more}
use Rattle.search_levels.proofs.pass.Invariants.{Paired}
use Rattle.search_levels.proofs.pass.Goals as goal
use Rattle.search_levels.proofs.pass.Goals.{At-loop-f}

-- level k is as it was
before_same : (c : At-loop-f) → (u v : ℕ) → u < limit.listed → v < limit.listed → pair_at c.loop-f.rows c.args.k u v ≡ pair_at c.args.rows.now c.args.k u v
before_same c u v l h = c.loop-f.invariant.0.kept (limit.listed * c.args.k + v) u (omega (arith, h)) l

pub loop-f-preserved : goal.loop-f-preserved
loop-f-preserved c =
    let a = c.args in
    let l = c.loop-f in
    let j = c.widen in
    let at : limit.listed * (a.k + 1) + l.f ≡ limit.listed * suc a.k + l.f = omega arith in
    let joined = subst (λ (i : ℕ). Joined l.rows i c.next_row-row.result j.new.work) at j.ensures.1 in (
      written-more (limit.listed * suc a.k) l.f a.rows.now l.rows l.invariant.0 c.next_row-row.result j.new.work joined j.auto.work,
      λ S R n. rows_more (limit.listed * suc a.k) l.f a.rows.now l.rows l.invariant.0 c.next_row-row.result j.new.work joined
          (Paired S a.work.now a.body.now a.ways.now a.t a.rows.now a.k)
          (has-so c.next_row-row.result (λ e. Paired S a.work.now a.body.now a.ways.now a.t l.rows a.k e l.f) (λ e. Paired S a.work.now a.body.now a.ways.now a.t a.rows.now a.k e l.f)
          (λ e g. (
            (λ q. (led-so a.ways.now a.t (pair_at l.rows a.k) (pair_at a.rows.now a.k) (before_same (goal.at.loop-f-preserved c).At-loop-f) e l.f q.0, q.1)),
            λ q. (led-so a.ways.now a.t (pair_at a.rows.now a.k) (pair_at l.rows a.k) (λ u v p y. sym (before_same (goal.at.loop-f-preserved c).At-loop-f u v p y)) e l.f q.0, q.1),
          ))
          (c.next_row-row.ensures S R n))
          (l.invariant.1 S R n),
    )
