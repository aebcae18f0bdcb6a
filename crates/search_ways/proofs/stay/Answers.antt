use mathlib.Core.Path.{◌≡◌, refl, sym, ap, ◌∙◌}
use Prim.Native.Nat.{ℕ}
use native.Mathlib.Omega.{arith}
use lib.ListN.{length}
use Rattle.facts_bits.proofs.Laws.{with-bit-length}
use Rattle.search_ways.proofs.Marking.{row_put, upto-more}
use Rattle.search_ways.proofs.stay.Goals as goal

pub loop-e-preserved : goal.loop-e-preserved
loop-e-preserved c =
    let a = c.args in
    let l = c.loop-e in
    let p = c.put.ensures in (
      ap length p ∙ (with-bit-length l.ways _ ∙ l.invariant.0),
      rw p (upto-more a.n (λ (k t : ℕ). k ≡ t) l.e (λ (t : ℕ). l.e ≡ t) (λ t h. ((λ x. x), λ x. x)) a.ways.now l.ways _ l.invariant.1
          (row_put l.ways l.e a.n l.e (λ (t : ℕ). l.e ≡ t) (omega arith) (omega (arith, c.requires)) (omega (arith, c.requires, l.invariant.0)) refl (λ u h q. sym q))),
    )
