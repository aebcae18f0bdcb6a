-- THE NUMBERS OF ANSWERS: kind × 2^32 + value.
use Rattle.std.specs.Prelude.{ℕ, Result, Ok, Err}
use Rattle.rows.specs.Rows.{number_of}
use Rattle.rows.specs.declared.Refusal.{Refusal}
use Rattle.words.specs.Words.{code, refusal}
use Rattle.analyzer_verdict.specs.declared.Answer.{Answer}
use Rattle.analyzer_verdict.specs.declared.Answer.TheVariants.{Reached, Unreached, Refused}
use Rattle.replay_session.specs.declared.Answer as session
use Rattle.replay_session.specs.declared.Answer.TheVariants as reply
use Rattle.replay_session.specs.declared.PlaceAnswer as place
use Rattle.replay_session.specs.declared.PlaceAnswer.TheVariants as place_reply

-- THE ANSWER OF THE ANALYSIS: kind 0 is unreached, kind 1 reached with the number of places
abbrev pub coded : Answer → ℕ
coded Unreached = code 0 0
coded (Reached n last) = code 1 n
coded (Refused n l) = refusal n l

-- THE ANSWER OF THE REPLAY: kind 3 is kept, kind 4 broken with the place
abbrev pub replied : Result session.Answer Refusal → ℕ
replied (Ok reply.Kept) = code 3 0
replied (Ok (reply.Broken place)) = code 4 place
replied (Err x) = refusal (number_of x.row) x.line

-- THE ANSWER TO ONE PLACE: the same kinds, and beside kept the number of those who stood by
abbrev pub put : Result place.PlaceAnswer Refusal → ℕ
put (Ok (place_reply.Kept stood)) = code 3 stood
put (Ok (place_reply.Broken place)) = code 4 place
put (Err x) = refusal (number_of x.row) x.line
