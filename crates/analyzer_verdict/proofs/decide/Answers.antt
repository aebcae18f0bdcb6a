use Prim.Native.Nat.{ℕ}
use native.Mathlib.Omega.{arith}
use lib.ListN.{length-replicate}
use borrow.Author.Rules.{rules}
use Rattle.facts_heads.specs.Heads.{room}
use Rattle.analyzer_verdict.proofs.decide.Goals as goal

pub search-searched-requires : goal.search-searched-requires
search-searched-requires c = (search rules, omega (arith, length-replicate {A = ℕ} room 0))
