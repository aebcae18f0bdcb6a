use Rattle.std.proofs.Common.{rules}
use Rattle.replay_session.proofs.Relations.{in_class-count}
use Rattle.replay_session.proofs.declared_states.Goals as goal

pub returns : goal.returns
returns c = rw in_class-count (search rules)
