use mathlib.Core.Path.{sym, ◌∙◌}
use Rattle.strike_model.proofs.Laws.{list_any-elem, moved-struck, moved-kept, moved-end}
use borrow.Author.Rules.{rules}
use Rattle.strike_model.proofs.strike.Goals as goal
use Rattle.strike_model.proofs.strike.Goals.{else-not-contains, then-not-contains}

pub loop-i-preserved : goal.loop-i-preserved
loop-i-preserved c =
    let l = c.loop-i in
    let e = c.contains.ensures.value ∙ list_any-elem _ c.args.lines.now in
    elim (c.if-not-contains.branch) [ then-not-contains w ↦ rw (w.m-is, w.kept-is) (moved-kept c.args.lines.now c.args.m l.m l.kept l.i l.invariant _ (search rules) c.requires.row (sym e ∙ w.if-not-contains.true)) | else-not-contains w ↦ rw (w.m-is, w.kept-is) (moved-struck c.args.lines.now c.args.m l.m l.kept l.i l.invariant _ (search rules) c.requires.row (sym e ∙ w.if-not-contains.false)) ]

pub returns : goal.returns
returns c = let l = c.loop-i in moved-end c.args.lines.now c.args.m l.m l.kept l.i l.invariant c.requires (search rules)
