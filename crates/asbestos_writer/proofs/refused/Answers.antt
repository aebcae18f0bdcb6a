-- `refused` meets its contract.
use mathlib.Core.Path.{sym}
use native.Mathlib.Omega.{arith}
use borrow.Author.Rules.{rules}
use Rattle.asbestos_writer.specs.Writing.{kinds_of}
use Rattle.asbestos_writer.proofs.Checks.{kinds-long, unfit, last-proper}
use Rattle.asbestos_writer.proofs.refused.Goals as goal

pub returns-then-count-eq0 : goal.returns-then-count-eq0
returns-then-count-eq0 c =
    let a = c.args in
    sym (unfit (kinds_of a.kinds.now a.count) a.port a.level a.room (λ g. omega (arith, g.some, kinds-long a.kinds.now a.count, c.if-count-eq0.true)))

pub returns-then-count-gt-KINDS : goal.returns-then-count-gt-KINDS
returns-then-count-gt-KINDS c =
    let a = c.args in
    sym (unfit (kinds_of a.kinds.now a.count) a.port a.level a.room (λ g. omega (arith, g.few, kinds-long a.kinds.now a.count, c.if-count-gt-KINDS.true)))

pub returns-then-port-ge-LEVELS : goal.returns-then-port-ge-LEVELS
returns-then-port-ge-LEVELS c =
    let a = c.args in
    sym (unfit (kinds_of a.kinds.now a.count) a.port a.level a.room (λ g. omega (arith, g.low, c.if-port-ge-LEVELS.true)))

pub returns-then-level-ge-LEVELS : goal.returns-then-level-ge-LEVELS
returns-then-level-ge-LEVELS c =
    let a = c.args in
    sym (unfit (kinds_of a.kinds.now a.count) a.port a.level a.room (λ g. omega (arith, g.asked, c.if-level-ge-LEVELS.true)))

pub returns-then-room-lt-TEXT : goal.returns-then-room-lt-TEXT
returns-then-room-lt-TEXT c =
    let a = c.args in
    sym (unfit (kinds_of a.kinds.now a.count) a.port a.level a.room (λ g. omega (arith, g.wide, c.if-room-lt-TEXT.true)))

pub returns : goal.returns
returns c =
    let a = c.args in
    let n = kinds-long a.kinds.now a.count in
    last-proper (kinds_of a.kinds.now a.count) a.port a.level a.room (omega (arith, n)) (omega (arith, n)) (search rules) (search rules) (search rules) c.all_proper.result c.all_proper.ensures
