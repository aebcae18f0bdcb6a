use mathlib.Core.Path.{◌∙◌}
use Rattle.search_states.specs.States.{row}
use Rattle.search_states.proofs.Seats.{list_any-elem}
use Rattle.shortest_answer.proofs.Laws.{known-row}
use Rattle.shortest_answer.proofs.known.Goals as goal

pub returns : goal.returns
returns c =
    rw ((rw c.row.ensures at c.contains.ensures.value) ∙ list_any-elem c.args.state (row c.args.s)) (known-row c.args.s c.args.state c.if-state-eq0.false)
