use mathlib.Core.Path.{◌≡◌, ap, ◌∙◌}
use Prim.Native.Nat.{ℕ, ◌≤◌, ◌<◌}
use native.Mathlib.Omega.{arith}
use lib.ListN.{length, get_or, take}
use lib.Seq.{get_or-take, length-take-le}
use Rattle.std.specs.Prelude.{unwrap_or}
use Rattle.limits.specs.Limits as limit
use Rattle.semantics.specs.Tables.{seat}
use Rattle.search_states.specs.States.{row}
use Rattle.search_states.proofs.Laws.{length-row}
use Rattle.search_states.proofs.Seats.{sought-or_length}
use Rattle.game_moves.proofs.Laws.{seat-most}
use Rattle.game_rounds.specs.Board.{number_at}
use Rattle.game_answer.proofs.Ordering.{arranged-more}
use Rattle.game_answer.proofs.arranged.Goals as goal
use Rattle.game_answer.proofs.arranged.Goals.{After-unwrap_or-slot}

-- the listed states are as many as the listing counts
many : (c : After-unwrap_or-slot) → let a = c.args in length (take a.listing.count a.listing.states) ≡ a.listing.count
many c = let h = c.requires.1 in length-take-le c.args.listing.count c.args.listing.states (omega arith)

-- the slot is that of the state, or of the empty one
sought : (c : After-unwrap_or-slot) → let a = c.args in c.unwrap_or-slot.result ≡ seat (get_or (take a.listing.count a.listing.states) c.loop-i.i 0) (row a.s)
sought c = let a = c.args in c.unwrap_or-slot.ensures ∙ sought-or_length _ (row a.s) a.s.count c.seek.result (length-row a.s c.requires.0) (rw c.row.ensures at c.seek.ensures)

-- one of the states' or the one behind
slot : (c : After-unwrap_or-slot) → c.unwrap_or-slot.result ≤ limit.atomic
slot c =
    let a = c.args in
    omega (arith, sought c, seat-most (get_or (take a.listing.count a.listing.states) c.loop-i.i 0) (row a.s), length-row a.s c.requires.0, c.requires.0.count)

pub offset_bounds-ranks-slot : goal.offset_bounds-ranks-slot
offset_bounds-ranks-slot c = record { fits = omega (arith, slot c) }

pub bounds-ranks-slot : goal.bounds-ranks-slot
bounds-ranks-slot c = omega (arith, slot c)

pub loop-i-preserved : goal.loop-i-preserved
loop-i-preserved c =
    let a = c.args in
    let l = c.loop-i in
    let h : l.i < a.listing.count = omega (arith, many (goal.at.loop-i-preserved c).After-unwrap_or-slot) in
    let count = c.requires.1.count in
    arranged-more (row a.s) a.listing.states a.ranks l.i l.moves l.invariant (omega arith) _
    (c.unwrap_or.ensures ∙ ap (λ (k : ℕ). unwrap_or (number_at a.ranks k) limit.none) (sought (goal.at.loop-i-preserved c).After-unwrap_or-slot ∙ ap (λ (x : ℕ). seat x (row a.s)) (get_or-take a.listing.count a.listing.states l.i 0 h)))
