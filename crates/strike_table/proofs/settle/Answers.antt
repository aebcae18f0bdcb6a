use mathlib.Core.Path.{refl, ◌∙◌}
use native.Mathlib.Omega.{arith}
use Rattle.model.specs.Records.{program_of, question_of}
use Rattle.strike_list.specs.Lists.{listed}
use Rattle.strike_table.proofs.Laws.{decided-some, decides_then, onward-same, ready_on}
use Rattle.strike_table.proofs.settle.Goals as goal

pub climb-requires : goal.climb-requires
climb-requires c =
    let d = c.decide.ensures in
    (ready_on c.args.m c.args.l _ _ _ _ c.requires.0 d.0.onward d.1, omega (arith, c.requires.1, d.0.onward.long))

pub returns-then-is_none : goal.returns-then-is_none
returns-then-is_none c =
    let d = c.decide.ensures in
    let k = c.climb.ensures in
    (decides_then (program_of c.args.m) (question_of c.args.m) (listed c.args.l) _ _ _ _ _ c.requires.1 d.0 k.0, k.1 ∙ d.1)

pub returns-else-is_none : goal.returns-else-is_none
returns-else-is_none c = (record { onward = onward-same (program_of c.args.m) (question_of c.args.m) (listed c.args.l) _ c.requires.0.right; decided = decided-some _ (rw c.if-is_none.false at c.is_none.ensures) }, refl)
