use borrow.Author.Rules.{rules}
use lib.ListN.{get_or}
use Rattle.std.specs.Prelude.{None}
use Rattle.semantics.proofs.Made.{made-each}
use Rattle.replay_meetings.specs.Carried.{Named}
use Rattle.replay_meetings.proofs.all_named.Goals as goal

pub returns : goal.returns
returns c = let a = c.args in λ v l. made-each _ (λ k r. Named a.g (get_or a.numbers k 0) a.c r) _ (λ k r q m. search rules) c.from_fn.result 2 c.from_fn.ensures.items v None l
