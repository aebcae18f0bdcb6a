use Rattle.handin_lines.proofs.Laws.{number-empty, number-single, number-zero, number-found}
use Rattle.handin_lines.proofs.read_number.Goals as goal
use Rattle.handin_lines.proofs.read_number.Goals.{else-digits-ne1-via-then-digits-ne1+else-line-eq48, else-digits-ne1-via-else-digits-ne1}

pub returns-then-digits-eq0 : goal.returns-then-digits-eq0
returns-then-digits-eq0 c = number-empty c.read_digits-r.ensures c.if-digits-eq0.true

pub returns-then-line-eq48 : goal.returns-then-line-eq48
returns-then-line-eq48 c = number-zero c.read_digits-r.ensures c.if-digits-eq0.false c.if-digits-ne1.true c.if-line-eq48.true

pub returns : goal.returns
returns c =
    let e = c.read_digits-r.ensures in
    elim c.else-digits-ne1.branch [
      | else-digits-ne1-via-then-digits-ne1+else-line-eq48 w ↦ number-found e c.if-digits-eq0.false w.if-digits-ne1.true w.if-line-eq48.false
      | else-digits-ne1-via-else-digits-ne1 w ↦ number-single e w.if-digits-ne1.false
    ]
