use mathlib.Core.Path.{refl, ◌∙◌}
use native.Mathlib.Omega.{arith}
use borrow.Author.Rules.{rules}
use Rattle.model.specs.Records.{program_of, question_of}
use Rattle.strike_list.specs.Lists.{listed}
use Rattle.strike_table.proofs.Laws.{decided-next, ready_on}
use Rattle.strike_table.proofs.complete.Goals as goal

pub loop-n-init : goal.loop-n-init
loop-n-init c =
    let d = c.decide.ensures in
    (ready_on c.args.m c.args.l _ _ _ _ c.requires d.0.onward d.1, (λ k h. absurd (omega (arith, h))), refl)

pub loop-n-preserved : goal.loop-n-preserved
loop-n-preserved c =
    let l = c.loop-n in
    let d = c.settle.ensures in (
      ready_on c.args.m c.args.l _ _ _ _ l.invariant.0 d.0.onward d.1,
      decided-next (program_of c.args.m) (question_of c.args.m) (listed c.args.l) l.n _ _ (search rules) d.0 l.invariant.1,
      d.1 ∙ l.invariant.2,
    )

pub returns : goal.returns
returns c =
    let l = c.loop-n in
    record { right = l.invariant.0.right; all = λ k h. l.invariant.1 k (omega (arith, h)) }
