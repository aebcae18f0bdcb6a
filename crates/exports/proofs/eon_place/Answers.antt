-- `exports::eon_place` meets its contract.
use mathlib.Core.Path.{refl}
use lib.Dec.{eqb}
use Rattle.limits.specs.Limits as limit
use Rattle.replay.specs.Replies.{narrow, place_outcome}
use Rattle.exports.proofs.Fitting.{place-fits}
use Rattle.exports.proofs.eon_place.Goals as goal

pub pack-left-requires : goal.pack-left-requires
pack-left-requires c =
    let r = c.put-answer in
    let u = c.unpack-state in
    let text = c.args.text.now in
    let work = c.args.work.now in
    (place-fits text (narrow work) (eqb u.result.kept limit.run) u.result c.args.place work r.result r.new.s r.new.work u.ensures.1 (place_outcome text u.result work) refl r.ensures).1

pub placed-requires : goal.placed-requires
placed-requires c =
    let r = c.put-answer in
    let u = c.unpack-state in
    let text = c.args.text.now in
    let work = c.args.work.now in
    (place-fits text (narrow work) (eqb u.result.kept limit.run) u.result c.args.place work r.result r.new.s r.new.work u.ensures.1 (place_outcome text u.result work) refl r.ensures).0

pub returns : goal.returns
returns c =
    let r = c.put-answer in
    let u = c.unpack-state in
    record { answer = r.result; after = r.new.s; puts = rw u.ensures.0 at r.ensures; number = c.placed.ensures; cells = c.pack-left.ensures }
