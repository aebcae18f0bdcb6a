use Rattle.text_names.specs.Names.{declared_of}
use Rattle.rows.proofs.Options.{passed}
use Rattle.text_lists.proofs.Laws.{name-faulty, name-added}
use Rattle.text_lists.proofs.add_name.Goals as goal

pub returns-in_err-set : goal.returns-in_err-set
returns-in_err-set c = let p = passed c.in_err-set.was c.from_residual.ensures.1 in rw p.1 (name-faulty (declared_of c.args.text.now c.args.d) c.args.word.now c.find.ensures.1 c.state_code-code.ensures c.both.ensures p.0 p.2)

pub returns : goal.returns
returns c = name-added (declared_of c.args.text.now c.args.d) c.args.word.now c.find.ensures.1 c.state_code-code.ensures c.both.ensures c.in_ok-set.set c.in_ok-set.c c.in_ok-set.was
