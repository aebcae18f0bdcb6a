use mathlib.Core.Path.{refl}
use Prim.Native.Nat.{◌<◌}
use native.Mathlib.Omega.{arith}
use Rattle.model.specs.Records.{stage_at}
use Rattle.from_here_verdict.proofs.Laws.{not-created, without-variable, too_many, told}
use Rattle.from_here_verdict.proofs.judge.Goals as goal
use Rattle.from_here_verdict.proofs.judge.Goals.{Else-first-eq0}

pub returns-then-object-s : goal.returns-then-object-s
returns-then-object-s c =
    let a = c.args in
    not-created a.m c.requires.0 a.places.now _ c.in-Some.ensures a.object _ _ _ c.if-object-s.true (rw c.number-then-object-s.ensures at c.refuse-then-object-s.ensures, refl)

pub returns-then-first-eq0 : goal.returns-then-first-eq0
returns-then-first-eq0 c =
    let a = c.args in
    without-variable a.m c.requires.0 a.places.now _ c.in-Some.ensures a.object _ _ _ c.if-object-s.false c.if-first-eq0.true (rw c.number-then-first-eq0.ensures at c.refuse-then-first-eq0.ensures, refl)

-- stage 1 has a variable
some : (c : Else-first-eq0) → 0 < (stage_at c.args.m 0).variables
some c = omega (arith, c.if-first-eq0.false)

pub returns-then-s-gt-EARLIER : goal.returns-then-s-gt-EARLIER
returns-then-s-gt-EARLIER c =
    let a = c.args in
    too_many a.m c.requires.0 a.places.now _ c.in-Some.ensures a.object _ _ _ c.if-object-s.false (some (goal.at.returns-then-s-gt-EARLIER c).Else-first-eq0) c.if-s-gt-EARLIER.true (rw c.number-then-s-gt-EARLIER.ensures at c.refuse-then-s-gt-EARLIER.ensures, refl)

pub returns : goal.returns
returns c =
    let a = c.args in
    told a.m c.requires.0 a.places.now _ c.in-Some.ensures a.object _ _ _ c.if-object-s.false (some (goal.at.returns c).Else-first-eq0) c.if-s-gt-EARLIER.false c.ask.ensures
