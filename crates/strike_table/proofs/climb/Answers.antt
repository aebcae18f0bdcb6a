use mathlib.Core.Path.{◌∙◌}
use native.Mathlib.Omega.{arith}
use Rattle.model.specs.Records.{program_of, question_of}
use Rattle.strike_list.specs.Lists.{listed}
use Rattle.strike_table.proofs.Laws.{next-below, onward_then, ready_on}
use Rattle.strike_table.proofs.climb.Goals as goal
use Rattle.strike_table.proofs.climb.Goals.{else-decide, then-decide}

pub decide-requires : goal.decide-requires
decide-requires c =
    let l = c.loop-i in
    (ready_on c.args.m c.args.l _ _ _ _ c.requires.0 l.invariant.1 l.invariant.2, omega (arith, l.invariant.1.long, next-below c.args.l.count l.i l.top _ c.requires.0.all l.invariant.0 (omega arith)))

pub loop-i-preserved : goal.loop-i-preserved
loop-i-preserved c =
    let l = c.loop-i in
    let d = c.decide in
    (elim (c.if-decide.branch) [ then-decide w ↦ rw w.top-is (next-below c.args.l.count l.i l.top _ c.requires.0.all l.invariant.0 (omega arith)) | else-decide w ↦ rw w.top-is l.invariant.0 ], onward_then (program_of c.args.m) (question_of c.args.m) (listed c.args.l) _ _ _ l.invariant.1 d.ensures.0.onward, d.ensures.1 ∙ l.invariant.2)
