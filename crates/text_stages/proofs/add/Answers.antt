use Rattle.rows.proofs.Options.{passed}
use Rattle.text_stages.proofs.Adding.{added-fault, added-stage}
use Rattle.text_stages.proofs.add.Goals as goal

pub returns-in_err-table : goal.returns-in_err-table
returns-in_err-table c = let p = passed c.in_err-table.was c.from_residual.ensures.1 in rw p.1 (added-fault c.args.text.now c.args.s c.args.m.now c.args.b c.complete-own.ensures c.both.ensures p.0 p.2)

pub returns : goal.returns
returns c = added-stage c.args.text.now c.args.s c.args.m.now c.args.b c.complete-own.ensures c.both.ensures c.in_ok-table.table c.in_ok-table.f c.in_ok-table.was c.number-numbers.ensures c.add_stage.ensures
