use Prim.Native.Nat.{ℕ}
use native.Mathlib.Omega.{arith}
use lib.ListN.{length-replicate}
use Rattle.facts_heads.specs.Heads.{room}
use borrow.Author.Rules.{rules}
use Rattle.explain.proofs.explain_model.Goals as goal

pub explain_run-explanation-requires : goal.explain_run-explanation-requires
explain_run-explanation-requires c = (search rules, search rules, omega (arith, length-replicate {A = ℕ} room 0), search rules)
