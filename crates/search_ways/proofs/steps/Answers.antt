use mathlib.Core.Path.{◌≡◌, subst}
use Prim.Native.Nat.{ℕ}
use native.Mathlib.Omega.{arith}
use borrow.Author.Rules.{rules}
use Rattle.search_states.specs.States.{row}
use Rattle.search_states.proofs.Laws.{length-row}
use Rattle.search_ways.specs.Moves.{matrix_bytes, Marks}
use Rattle.search_ways.proofs.Marking.{marks-none}
use Rattle.search_ways.proofs.Stepping.{LedTo, led-start, led-more, led-all}
use Rattle.search_ways.proofs.steps.Goals as goal

pub loop-i-init : goal.loop-i-init
loop-i-init c =
    let a = c.args in
    (search rules, led-start a.m (row a.s) a.s.count a.table.now _ _ (marks-none matrix_bytes) c.stay.ensures)

pub loop-i-preserved : goal.loop-i-preserved
loop-i-preserved c =
    let a = c.args in
    let l = c.loop-i in (
      search rules,
      led-more a.m (row a.s) a.s.count a.table.now l.i l.ways _ l.invariant.1 (rw (c.row-states.ensures, length-row a.s c.requires.1) at c.lead_clause.ensures),
    )

pub returns : goal.returns
returns c =
    let a = c.args in
    let l = c.loop-i in
    let e : l.i ≡ a.m.clausecount = omega arith in
    led-all a.m c.requires.0 a.s c.requires.1 a.table.now c.requires.2 l.ways
    (subst (λ (k : ℕ). Marks l.ways (LedTo a.m (row a.s) a.s.count a.table.now k)) e l.invariant.1)
