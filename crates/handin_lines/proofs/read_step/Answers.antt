use mathlib.Core.Path.{◌∙◌}
use Rattle.handin_lines.proofs.Shapes.{step-lineless, step-objectless, step-found}
use Rattle.handin_lines.proofs.read_step.Goals as goal

pub returns-in_err-n : goal.returns-in_err-n
returns-in_err-n c = c.from_residual.ensures ∙ step-lineless _ c.in_err-n.ensures

pub returns-in_err-o : goal.returns-in_err-o
returns-in_err-o c = c.from_residual-in_err-o.ensures ∙ step-objectless c.args.line.now c.in_ok-n.ensures c.in_err-o.ensures

pub returns : goal.returns
returns c = c.end_place.ensures ∙ step-found c.args.line.now c.in_ok-n.ensures c.in_ok-o.ensures
