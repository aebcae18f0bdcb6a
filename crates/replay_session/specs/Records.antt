-- THE REPLAY'S STATE over the record of a text.
use Rattle.semantics.specs.Runs as runs
use Rattle.model.specs.declared.Model.{Model}
use Rattle.model.specs.Records.{program_of, question_of}
use Rattle.model.specs.WellFormed.{declared_in}
use Rattle.replay_session.specs.declared.Session.{Session}
use Rattle.replay_session.specs.Sessions as sessions

-- where a run over the record stands
abbrev pub session_of : Model → Session → runs.Session
session_of m = sessions.session_of (question_of m)

-- the state fits the record's text
abbrev pub Fits : Model → Session → Type 0
Fits m = sessions.Fits (declared_in m 0) (question_of m)

-- the state after a place
abbrev pub taken : Model → Session → runs.Place → Session
taken m = sessions.taken (program_of m) (question_of m)
