use mathlib.Core.Path.{sym, ◌∙◌}
use Rattle.strike_calls.proofs.Laws.{asked-room, asked-model}
use Rattle.strike_calls.proofs.decide.Goals as goal

pub faulty-requires : goal.faulty-requires
faulty-requires c = let a = c.args in asked-model a.text.now a.list.now a.work.now _ c.in_ok-m.ensures

pub wipe-requires : goal.wipe-requires
wipe-requires c = let a = c.args in asked-room a.text.now a.list.now a.work.now _ c.in_ok-m.ensures

pub choose-requires : goal.choose-requires
choose-requires c = let a = c.args in (asked-model a.text.now a.list.now a.work.now _ c.in_ok-m.ensures, sym c.faulty.ensures ∙ c.if-faulty.false)
