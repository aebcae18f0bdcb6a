use borrow.Author.Rules.{rules}
use native.Mathlib.Omega.{arith}
use mathlib.Core.Path.{◌≡◌}
use mathlib.Core.Bool.{cond}
use Prim.Native.Nat.{◌≤◌}
use Rattle.std.specs.Prelude.{Some, None}
use Rattle.semantics.proofs.Made.{made-each}
use Rattle.facts_bits.specs.Bits.{bit_at}
use Rattle.game_rounds.proofs.outset.Goals as goal

pub returns : goal.returns
returns c = let a = c.args in record {
  long = search rules;
  each = λ e l. made-each _ (λ k r. k ≤ a.n → r ≡ cond (bit_at a.met k) (Some 0) None) _ (λ k r q m. search rules) c.from_fn.result 128 c.from_fn.ensures.items e None (omega (arith, l, c.requires)) l;
}
