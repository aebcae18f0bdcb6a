use Rattle.witness_meetings.proofs.attempt.Goals as goal

pub returns : goal.returns
returns c = (_, _, _, c.free-free.ensures, c.name_first-one.ensures, c.name_both-fixed.ensures, c.seek_stage.ensures)
