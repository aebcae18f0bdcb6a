use Rattle.cure.proofs.Laws.{advises-none, advises-some}
use Rattle.cure.proofs.conclude.Goals as goal

pub returns-in_err-n : goal.returns-in_err-n
returns-in_err-n c = λ P Q L d. rw c.from_residual.ensures (advises-none P Q L c.args.c d c.in_err-n.ensures)

pub returns : goal.returns
returns c = λ P Q L d. advises-some P Q L c.args.c d c.in_ok-n.n c.in_ok-n.ensures c.choose.result c.choose.ensures
