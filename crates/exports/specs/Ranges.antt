-- NUMBERS THAT FIT their cells and codes.
use Rattle.std.specs.Prelude.{ℕ, ◌≤◌, ◌<◌, None, IfSome, Result, Ok, Err, slice_index_or}
use Rattle.rows.specs.declared.Refusal.{Refusal}
use Rattle.limits.specs.Limits as limit
use Rattle.analyzer_verdict.specs.declared.Answer.{Answer}
use Rattle.analyzer_verdict.specs.declared.Answer.TheVariants.{Reached, Unreached, Refused}
use Rattle.replay_session.specs.declared.Answer as session
use Rattle.replay_session.specs.declared.Answer.TheVariants as reply
use Rattle.replay_session.specs.declared.PlaceAnswer as place
use Rattle.replay_session.specs.declared.PlaceAnswer.TheVariants as place_reply
use Rattle.replay_session.specs.declared.Session.{Session}

-- a shown run has at most 9,344 places
abbrev pub ShortRun : Answer → Type 0
ShortRun (Reached n last) = n ≤ limit.run
ShortRun Unreached = Unit {0}
ShortRun (Refused n l) = Unit {0}

-- it stands in the run table, and has a last place
abbrev pub Shown : ℕ → Answer → Type 0
Shown size (Reached n last) = (1 ≤ n) × (n ≤ size)
Shown size Unreached = Unit {0}
Shown size (Refused n l) = Unit {0}

-- a broken place is a number of 32 bits
abbrev pub LowPlace : Result session.Answer Refusal → Type 0
LowPlace (Ok reply.Kept) = Unit {0}
LowPlace (Ok (reply.Broken place)) = place < 4294967296
LowPlace (Err x) = Unit {0}

-- and so is the number of those who stood by
abbrev pub LowNumber : Result place.PlaceAnswer Refusal → Type 0
LowNumber (Ok (place_reply.Kept stood)) = stood < 4294967296
LowNumber (Ok (place_reply.Broken place)) = place < 4294967296
LowNumber (Err x) = Unit {0}

-- and so are the counts of a state, and its carried objects
pub record Small (s : Session) : Type 0 where
  pub objects : s.objects < 4294967296
  pub met : s.met < 4294967296
  pub carried : (v : ℕ) → v < limit.carried → IfSome (slice_index_or s.carried v None) (λ o. o < 4294967296)
  pub kept : s.kept < 4294967296
