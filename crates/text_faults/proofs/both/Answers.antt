use Rattle.text_faults.proofs.Laws.{both-ok, both-first, both-second, both-min}
use Rattle.text_faults.proofs.both.Goals as goal

pub returns-in-Ok-Ok : goal.returns-in-Ok-Ok
returns-in-Ok-Ok g c = rw (c.in-Ok-Ok.is-0, c.in-Ok-Ok.is-1) (both-ok c.in-Ok-Ok.x c.in-Ok-Ok.y)

pub returns-in-Ok-Err : goal.returns-in-Ok-Err
returns-in-Ok-Err g c = rw (c.in-Ok-Err.is-0, c.in-Ok-Err.is-1) (both-second c.in-Ok-Err.field-0-0 c.in-Ok-Err.y)

pub returns-in-Err-Ok : goal.returns-in-Err-Ok
returns-in-Err-Ok g c = rw (c.in-Err-Ok.is-0, c.in-Err-Ok.is-1) (both-first c.in-Err-Ok.x c.in-Err-Ok.field-0-1)

pub returns-in-Err-Err : goal.returns-in-Err-Err
returns-in-Err-Err g c = rw (c.in-Err-Err.is-0, c.in-Err-Err.is-1) (both-min c.in-Err-Err.x c.in-Err-Err.y _ c.min.ensures)
