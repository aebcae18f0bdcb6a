use Rattle.text.proofs.Lines.{called-plain}
use Rattle.text.proofs.read.Goals as goal

pub returns : goal.returns
returns c = rw (called-plain c.args.text.now) at c.accept.ensures
