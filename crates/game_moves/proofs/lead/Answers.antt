use mathlib.Core.Path.{◌≡◌, refl, sym, ap, ◌∙◌, subst}
use mathlib.Core.List.{List}
use Prim.Native.Nat.{ℕ, ◌+◌, ◌≤◌}
use native.Mathlib.Omega.{arith}
use lib.ListN.{length, get_or}
use Rattle.semantics.specs.Labels.{relabel}
use Rattle.semantics.specs.Tables.{seat}
use Rattle.search_states.proofs.Seats.{sought-or_length}
use Rattle.search_ways.specs.Moves.{Marks, With}
use Rattle.game_moves.proofs.Laws.{seat-most, GoesBelow, goes-more, goes-skip}
use Rattle.game_moves.proofs.lead.Goals as goal
use Rattle.game_moves.proofs.lead.Goals.{After-unwrap_or-t, else-get, then-get}

-- the slot is one of the states', or that of the empty state
found : (c : After-unwrap_or-t) → let a = c.args in c.unwrap_or-t.result ≡ seat (relabel (get_or a.states.now c.loop-e.e 0) a.plus a.minus) a.states.now
found c =
    let S = c.args.states.now in
    c.unwrap_or-t.ensures ∙ sought-or_length c.relabel-led.result S (length S) c.seek.result refl c.seek.ensures ∙ ap (λ (v : ℕ). seat v S) c.relabel-led.ensures

slot : (c : After-unwrap_or-t) → c.unwrap_or-t.result ≤ length c.args.states.now
slot c =
    let a = c.args in
    omega (arith, found c, seat-most (relabel (get_or a.states.now c.loop-e.e 0) a.plus a.minus) a.states.now)

pub overflow_add-e : goal.overflow_add-e
overflow_add-e c = record { fits = omega (arith, slot (goal.at.overflow_add-e c).After-unwrap_or-t) }

pub put-requires : goal.put-requires
put-requires c = omega (arith, slot (goal.at.put-requires c).After-unwrap_or-t)

pub loop-e-preserved : goal.loop-e-preserved
loop-e-preserved c =
    let a = c.args in
    let l = c.loop-e in
    let S = a.states.now in
    let g = c.get.ensures in
    elim (c.if-get.branch) [
      | then-get w ↦
          let t = w.unwrap_or-t.ensures ∙ sought-or_length w.relabel-led.result S (length S) w.seek.result refl w.seek.ensures ∙ ap (λ (v : ℕ). seat v S) w.relabel-led.ensures in
          let small : w.unwrap_or-t.result ≤ length S = omega (arith, t, seat-most (relabel (get_or S l.e 0) a.plus a.minus) S) in
          subst (λ (t : List ℕ). Marks t (With a.moves.now (GoesBelow a.table.now a.i S a.plus a.minus (l.e + 1)))) (sym (w.moves-is ∙ w.put.ensures))
          (goes-more a.table.now a.i S a.plus a.minus l.e a.moves.now l.moves l.invariant c.loop-e-test.true (sym g ∙ w.if-get.true) w.unwrap_or-t.result t (omega arith) (omega arith))
      | else-get w ↦ subst (λ (t : List ℕ). Marks t (With a.moves.now (GoesBelow a.table.now a.i S a.plus a.minus (l.e + 1)))) (sym w.moves-is)
          (goes-skip a.table.now a.i S a.plus a.minus l.e a.moves.now l.moves l.invariant (sym g ∙ w.if-get.false))
    ]
