use Rattle.model.specs.Records.{program_of, question_of}
use Rattle.strike_list.specs.Lists.{listed}
use Rattle.strike_table.proofs.Laws.{marked-decides, total-most}
use Rattle.strike_table.proofs.decide.Goals as goal

pub mark-requires : goal.mark-requires
mark-requires c = total-most c.args.l.count _ c.requires.0.few c.requires.0.all

pub returns : goal.returns
returns c =
    let r = c.reached-found in
    (marked-decides (program_of c.args.m) (question_of c.args.m) (listed c.args.l) _ _ c.args.n r.result c.mark.ensures c.requires.1 c.requires.0.right r.ensures.0, r.ensures.1)
