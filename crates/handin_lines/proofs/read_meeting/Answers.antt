use mathlib.Core.Path.{◌∙◌}
use Rattle.handin_lines.proofs.Shapes.{meet-stageless, meet-none, meet_one, meet-two, meet-three}
use Rattle.handin_lines.proofs.read_meeting.Goals as goal

pub returns-in_err-n : goal.returns-in_err-n
returns-in_err-n c = c.from_residual.ensures ∙ meet-stageless _ c.in_err-n.ensures

pub returns-in_default : goal.returns-in_default
returns-in_default c = c.end_meeting.ensures ∙ meet-none c.args.line.now c.in_ok-n.ensures c.in_default.ensures

pub returns-in_default-read_object : goal.returns-in_default-read_object
returns-in_default-read_object c = c.end_meeting-in_default-read_object.ensures ∙ meet_one c.args.line.now c.in_ok-n.ensures c.in-Some.ensures c.in_default-read_object.ensures

pub returns-in_default-read_object-2 : goal.returns-in_default-read_object-2
returns-in_default-read_object-2 c =
    c.end_meeting-in_default-read_object-2.ensures ∙ meet-two c.args.line.now c.in_ok-n.ensures c.in-Some.ensures c.in-Some-read_object.ensures c.in_default-read_object-2.ensures

pub returns : goal.returns
returns c =
    c.end_meeting-2.ensures ∙ meet-three c.args.line.now c.in_ok-n.ensures c.in-Some.ensures c.in-Some-read_object.ensures c.in-Some-read_object-2.ensures
