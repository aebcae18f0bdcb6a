use mathlib.Core.Path.{◌≡◌, refl, sym, ◌∙◌}
use native.Mathlib.Omega.{arith}
use lib.ListN.{length, take}
use lib.Seq.{length-take-le}
use Rattle.strike_list.proofs.Records.{chosen-struck, chosen-kept}
use Rattle.strike_list.proofs.choose.Goals as goal
use Rattle.strike_list.proofs.choose.Goals.{else-has, then-has}

pub loop-i-preserved : goal.loop-i-preserved
loop-i-preserved c =
    let l = c.loop-i in
    let a = c.args in
    let xs = take a.l.count a.l.lines in
    let e : length xs ≡ a.l.count = length-take-le a.l.count a.l.lines (omega arith) in
    elim c.if-has.branch [
      | then-has w ↦ rw (w.chosen-is, w.push.ensures.0, w.push.ensures.1) (chosen-struck xs a.number l.chosen.lines l.chosen.count l.i _ l.invariant (omega (arith, e)) (omega (arith, e)) _ refl (omega (arith, e)) (sym c.has.ensures ∙ w.if-has.true))
      | else-has w ↦ rw w.chosen-is (chosen-kept xs a.number l.chosen.lines l.chosen.count l.i _ l.invariant (omega (arith, e)) (omega (arith, e)) (sym c.has.ensures ∙ w.if-has.false))
    ]
