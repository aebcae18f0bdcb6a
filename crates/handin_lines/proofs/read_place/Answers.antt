use mathlib.Core.Path.{sym, ap, ◌∙◌}
use Rattle.handin_lines.specs.Found.{number_said}
use Rattle.handin_lines.proofs.Shapes.{line_step, line-meet, line-placeless}
use Rattle.handin_lines.proofs.read_place.Goals as goal

pub returns-in-Some : goal.returns-in-Some
returns-in-Some c = c.read_step.ensures ∙ ap number_said (sym (line_step c.args.line.now c.in-Some.ensures))

pub returns-in-Some-behind : goal.returns-in-Some-behind
returns-in-Some-behind c = c.read_meeting.ensures ∙ ap number_said (sym (line-meet c.args.line.now c.in-Some-behind.ensures))

pub returns : goal.returns
returns c = line-placeless c.args.line.now c.in_default.ensures c.in_default-behind.ensures
