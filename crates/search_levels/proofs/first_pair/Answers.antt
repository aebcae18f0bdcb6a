use mathlib.Core.Path.{◌≡◌, sym, ◌∙◌}
use mathlib.Core.Bool.{false}
use Prim.Native.Nat.{ℕ, ◌<◌}
use native.Mathlib.Omega.{arith}
use borrow.Author.Count.{below_more}
use Rattle.limits.specs.Limits as limit
use Rattle.semantics.proofs.Tools.{clash}
use Rattle.facts_bits.specs.Bits.{bit_at}
use Rattle.search_levels.proofs.first_pair.Goals as goal
use Rattle.search_levels.proofs.first_pair.Goals.{in-Some+else-e-lt-LISTED, in_default}

pub loop-f-preserved : goal.loop-f-preserved
loop-f-preserved c =
    let none : (e : ℕ) → e < limit.listed → bit_at c.row-row.result e ≡ false = elim (c.match-first.branch) [
      | in-Some+else-e-lt-LISTED w ↦ let l = w.if-e-lt-LISTED.false in λ e h. w.in-Some.ensures.clear e (omega arith) (omega arith)
      | in_default w ↦ λ e h. w.in_default.ensures e (omega arith) (omega arith)
    ] in
    below_more _ _ c.loop-f.invariant (λ h. clash h.2 (sym (c.row-row.ensures.bits h.0 (omega (arith, h.1))) ∙ none h.0 h.1))

pub returns : goal.returns
returns c = λ e f s. c.loop-f.invariant f (omega (arith, s.1)) (e, s.0, s.2)
