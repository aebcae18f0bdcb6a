use mathlib.Core.Path.{◌≡◌, sym, ap, ◌∙◌}
use mathlib.Core.Logic.{inr}
use native.Mathlib.Omega.{arith}
use lib.Seq.{slice}
use Rattle.text_scan.proofs.Laws.{slice-part}
use Rattle.text_names.specs.Names.{declared_of}
use Rattle.text_declarations.specs.Declares.{rel_number}
use Rattle.text_faults.specs.Faults.{fault_in}
use Rattle.rows.proofs.Options.{passed, some_of}
use Rattle.text_declarations.proofs.Laws.{room, rel-few, rel-faulty, rel-added}
use Rattle.text_declarations.proofs.read_rel.Goals as goal

pub returns-in_err-rel_room : goal.returns-in_err-rel_room
returns-in_err-rel_room c =
    let x = rw (some_of _ c.ok_or.ensures.value c.in_ok-e.was) at c.rel_end.ensures in
    let t = c.args.text.now in
    let w = slice c.args.at c.in_ok-e.e t in
    let n : fault_in c.rel_room.result ≡ rel_number (declared_of t c.args.d) w c.in_ok-e.n = rw (slice-part t c.args.at c.in_ok-e.e (omega (arith, x.begins))) c.rel_room.ensures in
    let p = passed c.in_err-rel_room.was c.from_residual-in_err-rel_room.ensures.1 in
    rw p.1 (rel-faulty x p.0 (ap fault_in (sym p.2) ∙ n))

pub enter-requires : goal.enter-requires
enter-requires c =
    let x = rw (some_of _ c.ok_or.ensures.value c.in_ok-e.was) at c.rel_end.ensures in
    let t = c.args.text.now in
    let w = slice c.args.at c.in_ok-e.e t in
    let n : fault_in c.rel_room.result ≡ rel_number (declared_of t c.args.d) w c.in_ok-e.n = rw (slice-part t c.args.at c.in_ok-e.e (omega (arith, x.begins))) c.rel_room.ensures in
    let z = rel-few t c.args.d w c.in_ok-e.n (sym n ∙ ap fault_in c.in_ok-rel_room.was) in
    (room t c.args.d c.args.at c.in_ok-e.e c.requires.2 c.requires.3 (omega (arith, x.begins)) (omega (arith, x.ends)) (inr z), c.requires.2.names, omega (arith, x.begins), omega (arith, x.ends, c.requires.1), omega (arith, x.small))

pub returns : goal.returns
returns c =
    let x = rw (some_of _ c.ok_or.ensures.value c.in_ok-e.was) at c.rel_end.ensures in
    let t = c.args.text.now in
    let w = slice c.args.at c.in_ok-e.e t in
    let n : fault_in c.rel_room.result ≡ rel_number (declared_of t c.args.d) w c.in_ok-e.n = rw (slice-part t c.args.at c.in_ok-e.e (omega (arith, x.begins))) c.rel_room.ensures in
    let y = sym n ∙ ap fault_in c.in_ok-rel_room.was in
    rel-added x c.requires.2 c.requires.3 y (rel-few t c.args.d w c.in_ok-e.n y) c.enter.ensures
