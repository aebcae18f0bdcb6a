use lib.ListN.{take}
use Rattle.strike_list.proofs.Records.{Chosen}
use Rattle.strike_list.proofs.choose.Given as goal

abbrev pub invariant-loop-i : goal.invariant-loop-i
invariant-loop-i l = Chosen (take l.fn.l.count l.fn.l.lines) l.number l.chosen.lines l.chosen.count l.i
