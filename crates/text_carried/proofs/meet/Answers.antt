use native.Mathlib.Omega.{arith}
use Rattle.text_carried.proofs.Laws.{met-below, met-known, met-fresh}
use Rattle.text_scope.specs.Scopes.{known_of}
use Rattle.text_scope.proofs.Laws.{known-slice, unknown-slice}
use Rattle.text_carried.proofs.meet.Goals as goal

pub mark-requires : goal.mark-requires
mark-requires c =
    let t = c.args.text.now in
    let k = known-slice t (known_of t c.args.t.now) c.args.a c.args.e c.requires.1 c.in-Some.ensures in
    omega (arith, met-below t c.args.t.now c.args.a c.args.e c.requires.0 k, c.requires.0.count)

pub returns-in-Some : goal.returns-in-Some
returns-in-Some c =
    let t = c.args.text.now in
    rw c.mark.ensures (met-known t c.args.t.now c.args.a c.args.e c.requires.0 (known-slice t (known_of t c.args.t.now) c.args.a c.args.e c.requires.1 c.in-Some.ensures))

pub returns : goal.returns
returns c =
    let t = c.args.text.now in
    rw c.add.ensures (met-fresh t c.args.t.now c.args.a c.args.e c.requires.0 (unknown-slice t (known_of t c.args.t.now) c.args.a c.args.e c.requires.1 c.in_default.ensures) c.requires.3 c.requires.1 c.requires.2)
