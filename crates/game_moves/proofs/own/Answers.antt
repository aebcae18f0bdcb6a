use mathlib.Core.Path.{◌≡◌, sym, ◌∙◌, subst}
use mathlib.Core.List.{List}
use Prim.Native.Nat.{ℕ, ◌+◌, ◌<◌}
use native.Mathlib.Omega.{arith}
use Rattle.semantics.specs.Models.{elem}
use Rattle.std.proofs.lemmas.List.{length-take}
use Rattle.model.specs.Records.{clause_at}
use Rattle.model.proofs.Counted.{counted}
use Rattle.search_states.specs.States.{row}
use Rattle.search_states.proofs.Seats.{list_any-elem}
use Rattle.search_ways.specs.Moves.{Marks}
use Rattle.game_moves.specs.Own.{OwnBelow}
use Rattle.game_moves.proofs.Laws.{own-none, own-more, own-skip, own-all}
use Rattle.game_moves.proofs.own.Goals as goal
use Rattle.game_moves.proofs.own.Goals.{After-contains, else-contains, then-contains}

-- whether the clause's line is in the list
listed : (c : After-contains) → let a = c.args in c.contains.result ≡ elem (clause_at a.m c.loop-i.i).line a.list.now
listed c =
    let a = c.args in
    let t : c.loop-i.i < a.m.clausecount = omega (arith, c.loop-i-test.true, length-take a.m.clausecount a.m.clauses) in
    (rw (counted a.m c.loop-i.i t) at c.contains.ensures.value) ∙ list_any-elem (clause_at a.m c.loop-i.i).line a.list.now

pub loop-i-init : goal.loop-i-init
loop-i-init c = let a = c.args in own-none a.m a.table.now (row a.s) a.list.now

pub loop-i-preserved : goal.loop-i-preserved
loop-i-preserved c =
    let a = c.args in
    let l = c.loop-i in
    let t : l.i < a.m.clausecount = omega (arith, c.loop-i-test.true, length-take a.m.clausecount a.m.clauses) in
    let e = sym (listed (goal.at.loop-i-preserved c).After-contains) in
    elim (c.if-contains.branch) [
      | then-contains w ↦ subst (λ (t : List ℕ). Marks t (OwnBelow a.m a.table.now (row a.s) a.list.now (l.i + 1))) (sym w.moves-is)
          (own-more a.m a.table.now (row a.s) a.list.now l.i l.moves l.invariant (e ∙ w.if-contains.true) _ (rw (c.row-states.ensures, counted a.m l.i t) at w.lead_clause.ensures))
      | else-contains w ↦ subst (λ (t : List ℕ). Marks t (OwnBelow a.m a.table.now (row a.s) a.list.now (l.i + 1))) (sym w.moves-is)
          (own-skip a.m a.table.now (row a.s) a.list.now l.i l.moves l.invariant (e ∙ w.if-contains.false))
    ]

pub returns : goal.returns
returns c =
    let a = c.args in
    let l = c.loop-i in
    own-all a.m c.requires.0 a.s c.requires.1 c.requires.2 a.table.now c.requires.3 a.list.now l.moves
    (subst (λ (k : ℕ). Marks l.moves (OwnBelow a.m a.table.now (row a.s) a.list.now k)) (omega (arith, length-take a.m.clausecount a.m.clauses, c.requires.0.clauses)) l.invariant)
