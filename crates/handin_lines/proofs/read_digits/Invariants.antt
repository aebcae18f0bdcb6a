use Rattle.handin_lines.proofs.Laws.{DigitsSo}
use Rattle.handin_lines.proofs.read_digits.Given as goal

abbrev pub invariant-loop-i : goal.invariant-loop-i
invariant-loop-i l = DigitsSo l.line l.value l.i
