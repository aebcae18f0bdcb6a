use mathlib.Core.Path.{refl, sym, ap, ◌∙◌}
use native.Mathlib.Omega.{arith}
use borrow.Author.Count.{below_more}
use Rattle.semantics.proofs.Tools.{clash}
use Rattle.facts_bits.specs.Bits.{in_row}
use Rattle.witness_meetings.specs.Meetings.{first_variable}
use Rattle.witness_meetings.proofs.Laws.{first_below, attempt-none, attempt-found}
use Rattle.witness_meetings.proofs.opening.Goals as goal
use Rattle.witness_meetings.proofs.opening.Goals.{else-get, then-get+in_default}

pub returns-in-Some : goal.returns-in-Some
returns-in-Some c =
    let p = c.requires in
    let a = c.args in
    let h = c.in-Some.ensures in
    attempt-found a.m a.work.now a.s p.0 p.2 a.rows.now a.j a.first a.second _ h.0 h.1 h.2 h.3 h.4 h.5 p.5.0 p.5.1 (sym c.get.ensures ∙ c.if-get.true) _ h.6

pub loop-u-preserved : goal.loop-u-preserved
loop-u-preserved c =
    let p = c.requires in
    let a = c.args in
    below_more _ _ c.loop-u.invariant (elim (c.if-get.branch) [
      | then-get+in_default w ↦ λ t.
          let h = w.in_default.ensures in
          attempt-none a.m a.work.now a.s p.0 p.2 a.rows.now a.j a.first a.second _ h.0 h.1 h.2 h.3 h.4 h.5 t.0 t.1 t.2 h.6
      | else-get w ↦ λ t. clash t.1.1 (ap (in_row a.rows.now a.j) t.2 ∙ sym c.get.ensures ∙ w.if-get.false)
    ])

pub unreachable-requires : goal.unreachable-requires
unreachable-requires c =
    let p = c.requires in
    let a = c.args in
    c.loop-u.invariant (p.5.0 (first_variable a.m)) (omega (arith, first_below a.m a.work.now a.s p.0 p.2 a.rows.now a.j a.first a.second p.5.0 p.5.1)) (p.5.0, p.5.1, refl)
