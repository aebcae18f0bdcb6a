use mathlib.Core.Path.{sym, ◌∙◌, ap}
use Rattle.semantics.specs.Models.{Program}
use Rattle.strike_list.specs.Lists.{named, shown}
use Rattle.strike_list.proofs.Records.{holds-shown}
use Rattle.strike_list.proofs.Gathering.{begun, begun-end, gathered-less, gathered-room, gathered-more}
use Rattle.strike_list.proofs.gather.Goals as goal
use Rattle.strike_list.proofs.gather.Goals.{else-wanted, then-wanted}

pub push-requires : goal.push-requires
push-requires c =
    let l = c.loop-c in
    gathered-room c.args.m c.requires.0 c.args.list.now l.found.lines l.found.count l.c-index c.loop-c-test.true l.invariant (sym c.wanted.ensures ∙ c.if-wanted.true) c.requires.1

pub loop-c-preserved : goal.loop-c-preserved
loop-c-preserved c =
    let l = c.loop-c in
    elim c.if-wanted.branch [
      | then-wanted w ↦ rw (w.found-is, w.push.ensures.0, w.push.ensures.1) (gathered-more c.args.m c.requires.0 c.args.list.now l.found.lines l.found.count l.c-index c.loop-c-test.true l.invariant (sym c.wanted.ensures ∙ w.if-wanted.true) c.requires.1)
      | else-wanted w ↦ rw w.found-is (gathered-less c.args.m c.requires.0 c.args.list.now l.found.lines l.found.count l.c-index c.loop-c-test.true l.invariant (sym c.wanted.ensures ∙ w.if-wanted.false))
    ]

pub returns : goal.returns
returns c =
    let l = c.loop-c in
    let a = c.args in
    holds-shown l.found.lines l.found.count (named (begun a.m l.c-index) a.list.now) l.invariant
    ∙ ap (λ (P : Program). shown (named P a.list.now)) (begun-end a.m c.requires.0 l.c-index c.loop-c-test.false l.auto.c-index-end)
