use Prim.Native.Nat.{ℕ}
use native.Mathlib.Omega.{arith}
use lib.ListN.{length-replicate}
use Rattle.facts_heads.specs.Heads.{room}
use borrow.Author.Rules.{rules}
use Rattle.shortest_answer.proofs.decide.Goals as goal

pub explore-explored-requires : goal.explore-explored-requires
explore-explored-requires c = (search rules, omega (arith, length-replicate {A = ℕ} room 0))

pub find-answer-requires : goal.find-answer-requires
find-answer-requires c = let e = c.explore-explored in (c.requires.0, (e.new.work, e.ensures.0), c.requires.2)

pub returns : goal.returns
returns c = record { answer = c.find-answer.ensures; area = c.wipe.ensures }
