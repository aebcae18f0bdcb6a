use mathlib.Core.Path.{◌≡◌, subst}
use Prim.Native.Nat.{ℕ}
use native.Mathlib.Omega.{arith}
use Rattle.search_ways.specs.Moves.{table_bytes, Marks}
use Rattle.search_ways.proofs.Marking.{marks-none}
use Rattle.search_ways.proofs.Table.{Below, below_none, below_more, can-take}
use borrow.Author.Rules.{rules}
use Rattle.search_ways.proofs.takes.Goals as goal

pub loop-i-init : goal.loop-i-init
loop-i-init c =
    (search rules, below_none c.args.m c.args.work.now _ (marks-none table_bytes))

pub loop-i-preserved : goal.loop-i-preserved
loop-i-preserved c =
    let a = c.args in
    let l = c.loop-i in
    (search rules, below_more a.m a.work.now l.i l.table _ l.invariant.1 c.note.ensures)

pub returns : goal.returns
returns c =
    let a = c.args in
    let l = c.loop-i in
    let e : l.i ≡ a.m.clausecount = omega arith in
    λ s ex. can-take a.m c.requires.0 s a.work.now l.table ex (subst (λ (k : ℕ). Marks l.table (Below a.m a.work.now k)) e l.invariant.1)
