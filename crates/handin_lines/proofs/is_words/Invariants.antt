use lib.ListN.{length}
use Rattle.handin_lines.proofs.Laws.{WordsSo}
use Rattle.handin_lines.proofs.is_words.Given as goal

abbrev pub invariant-loop-e : goal.invariant-loop-e
invariant-loop-e l = WordsSo l.line l.left

abbrev pub decreases-loop-e : goal.decreases-loop-e
decreases-loop-e l = length l.left
