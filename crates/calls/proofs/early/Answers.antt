use mathlib.Core.Path.{refl, ap}
use borrow.Author.Tests.{lt-ltb, le-ltb, ne_eqb}
use Rattle.limits.specs.Limits as limit
use Rattle.rows.specs.Rows.{number_of}
use Rattle.calls.specs.Calls.{early}
use Rattle.calls.proofs.early.Goals as goal
use Rattle.calls.proofs.early.Goals.{then-bytes-eq0-via-then-bytes-eq0, then-bytes-eq0-via-else-bytes-eq0+then-bytes-gt-TEXT}

pub returns-then-bytes-eq0 : goal.returns-then-bytes-eq0
unfolding early
returns-then-bytes-eq0 c =
    let b = c.args.bytes in
    let r = c.refusal in
    elim (c.then-bytes-eq0.branch) [
      | then-bytes-eq0-via-then-bytes-eq0 w ↦ rw w.if-bytes-eq0.true (ap number_of r.ensures.0, r.ensures.1)
      | then-bytes-eq0-via-else-bytes-eq0+then-bytes-gt-TEXT w ↦ rw (ne_eqb b 0 w.if-bytes-eq0.false, lt-ltb limit.text b w.if-bytes-gt-TEXT.true) (ap number_of r.ensures.0, r.ensures.1)
    ]

pub returns-then-short : goal.returns-then-short
unfolding early
returns-then-short c =
    let b = c.args.bytes in
    let r = c.refusal-then-short in
    rw (ne_eqb b 0 c.if-bytes-eq0.false, le-ltb limit.text b c.if-bytes-gt-TEXT.false, c.if-short.true) (ap number_of r.ensures.0, r.ensures.1)

pub returns-then-long : goal.returns-then-long
unfolding early
returns-then-long c =
    let b = c.args.bytes in
    let r = c.refusal-then-long in
    rw (ne_eqb b 0 c.if-bytes-eq0.false, le-ltb limit.text b c.if-bytes-gt-TEXT.false, c.if-short.false, c.if-long.true) (ap number_of r.ensures.0, r.ensures.1)

pub returns : goal.returns
unfolding early
returns c = let b = c.args.bytes in rw (ne_eqb b 0 c.if-bytes-eq0.false, le-ltb limit.text b c.if-bytes-gt-TEXT.false, c.if-short.false, c.if-long.false) refl
