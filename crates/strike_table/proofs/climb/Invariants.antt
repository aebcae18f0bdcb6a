use mathlib.Core.Path.{◌≡◌}
use Prim.Native.Nat.{◌<◌}
use lib.ListN.{length}
use Rattle.model.specs.Records.{program_of, question_of}
use Rattle.strike_list.specs.Lists.{listed}
use Rattle.strike_table.specs.Tables.{Onward}
use Rattle.strike_table.proofs.climb.Given as goal

abbrev pub invariant-loop-i : goal.invariant-loop-i
invariant-loop-i l = (l.top < length l.initial.said) × Onward (program_of l.m) (question_of l.m) (listed l.l) l.initial.said l.said × (length l.facts ≡ length l.initial.facts)
