use lib.Dec.{eqb}
use Rattle.std.proofs.Common.{rules, tests}
use Rattle.std.proofs.lemmas.Iterator.{YieldsList-from_slice}
use Rattle.std.proofs.lemmas.Iterator.Search.{position_from_yields_List}
use Rattle.search_states.proofs.Seats.{sought-seat}
use Rattle.search_states.proofs.seek.Goals as goal

pub returns : goal.returns
returns c =
    let a = c.args in
    sought-seat a.x a.row.now c.position.result (position_from_yields_List (eqb a.x) _ _ c.position.result c.position.ensures.ran (YieldsList-from_slice a.row.now cc) (λ x b q k. search (rules, tests)))
