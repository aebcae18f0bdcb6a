use mathlib.Core.Path.{◌≡◌}
use mathlib.Core.Logic.{◌≢◌}
use Prim.Native.Nat.{ℕ, ◌<◌}
use lib.ListN.{length}
use Rattle.std.specs.Prelude.{None}
use Rattle.strike_table.specs.Tables.{said_of, Ready}
use Rattle.strike_table.proofs.complete.Given as goal

abbrev pub invariant-loop-n : goal.invariant-loop-n
invariant-loop-n l = Ready l.m l.l l.said l.facts × ((k : ℕ) → k < l.n → said_of l.said k ≢ None) × (length l.facts ≡ length l.initial.facts)
