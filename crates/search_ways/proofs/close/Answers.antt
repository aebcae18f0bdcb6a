use mathlib.Core.Path.{◌≡◌, subst}
use Prim.Native.Nat.{ℕ}
use native.Mathlib.Omega.{arith}
use borrow.Author.Rules.{rules}
use native.Mathlib.Numerals.{add-one}
use Rattle.search_ways.specs.Moves.{Marks}
use Rattle.search_ways.proofs.Closing.{Via, via-more, via-all}
use Rattle.search_ways.proofs.close.Goals as goal

pub loop-k-preserved : goal.loop-k-preserved
loop-k-preserved c =
    let a = c.args in
    let l = c.loop-k in (
      search rules,
      rw (add-one l.k) (via-more a.ways.now a.n c.requires.0 c.requires.1 l.k (omega arith) l.ways _ l.invariant.1 c.pass.ensures),
    )

pub returns : goal.returns
returns c =
    let a = c.args in
    let l = c.loop-k in
    let e : l.k ≡ a.n = omega arith in
    via-all a.ways.now a.n c.requires.0 c.requires.1 l.ways (subst (λ (k : ℕ). Marks l.ways (Via a.ways.now k)) e l.invariant.1)
