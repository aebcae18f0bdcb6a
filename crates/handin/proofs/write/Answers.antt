use native.Mathlib.Omega.{arith}
use Rattle.handin.proofs.Laws.{yes-short, yes-front, yes-run}
use Rattle.handin.proofs.write.Goals as goal

pub preface_end-s-requires : goal.preface_end-s-requires
preface_end-s-requires c =
    let f = yes-front (record { left = c.args.handin }) c.next.result c.next.new.self c.next.ensures.steps c.requires.1.2 in
    omega (arith, yes-short c.args.handin.now c.requires.1.2, f.1.less)

pub write_places-requires : goal.write_places-requires
write_places-requires c =
    let f = yes-front (record { left = c.args.handin }) c.next.result c.next.new.self c.next.ensures.steps c.requires.1.2 in
    (c.requires.0, (c.preface_end-s.result.line, c.requires.1.0, c.requires.1.1, yes-run c.args.handin.now c.requires.1.2 f.1 c.preface_end-s.ensures))

pub returns : goal.returns
returns c = λ first ps e.
    let f = yes-front (record { left = c.args.handin }) c.next.result c.next.new.self c.next.ensures.steps e in
    c.write_places.ensures c.preface_end-s.result.line first ps (yes-run c.args.handin.now e f.1 c.preface_end-s.ensures)
