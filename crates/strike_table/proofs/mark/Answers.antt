use mathlib.Core.Path.{sym, ◌∙◌}
use native.Mathlib.Omega.{arith}
use Rattle.std.proofs.lemmas.List.{set-get_or}
use Rattle.strike_table.proofs.Laws.{marking-start, marking-more, marking-other, marking-end}
use Rattle.strike_table.proofs.mark.Goals as goal
use Rattle.strike_table.proofs.mark.Goals.{else-settles, then-settles}

pub loop-k-init : goal.loop-k-init
loop-k-init c = marking-start _ _ _

pub loop-k-preserved : goal.loop-k-preserved
loop-k-preserved c =
    let l = c.loop-k in
    elim (c.if-settles.branch) [ then-settles w ↦ rw w.said-is (marking-more _ _ l.k _ _ l.invariant (sym c.settles.ensures ∙ w.if-settles.true) (omega (arith, l.invariant.long))) | else-settles w ↦ rw (w.said-is, set-get_or) (marking-other _ _ l.k _ _ l.invariant (sym c.settles.ensures ∙ w.if-settles.false)) ]

pub returns : goal.returns
returns c = marking-end _ _ _ _ _ c.loop-k.invariant (omega arith)
