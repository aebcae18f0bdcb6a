use mathlib.Core.Path.{◌≡◌, sym, ap, ◌∙◌}
use mathlib.Core.Logic.{inl}
use native.Mathlib.Omega.{arith}
use lib.Seq.{slice}
use Rattle.text_scan.proofs.Laws.{slice-part}
use Rattle.text_names.specs.Names.{declared_of}
use Rattle.text_declarations.specs.Declares.{state_number}
use Rattle.text_faults.specs.Faults.{fault_in}
use Rattle.rows.proofs.Options.{passed, some_of}
use Rattle.text_declarations.proofs.Laws.{room, state-faulty, state-added, state-few}
use Rattle.text_declarations.proofs.read_state.Goals as goal

pub returns-in_err-state_room : goal.returns-in_err-state_room
returns-in_err-state_room c =
    let x = rw (some_of _ c.ok_or.ensures.value c.in_ok-e.was) at c.state_end.ensures in
    let t = c.args.text.now in
    let w = slice c.args.at c.in_ok-e.e t in
    let n : fault_in c.state_room.result ≡ state_number (declared_of t c.args.d) w = rw (slice-part t c.args.at c.in_ok-e.e (omega (arith, x.begins))) c.state_room.ensures in
    let p = passed c.in_err-state_room.was c.from_residual-in_err-state_room.ensures.1 in
    rw p.1 (state-faulty x p.0 (ap fault_in (sym p.2) ∙ n))

pub enter-requires : goal.enter-requires
enter-requires c =
    let x = rw (some_of _ c.ok_or.ensures.value c.in_ok-e.was) at c.state_end.ensures in
    let t = c.args.text.now in
    let w = slice c.args.at c.in_ok-e.e t in
    let n : fault_in c.state_room.result ≡ state_number (declared_of t c.args.d) w = rw (slice-part t c.args.at c.in_ok-e.e (omega (arith, x.begins))) c.state_room.ensures in
    let z = state-few t c.args.d w (sym n ∙ ap fault_in c.in_ok-state_room.was) in
    (room t c.args.d c.args.at c.in_ok-e.e c.requires.2 c.requires.3 (omega (arith, x.begins)) (omega (arith, x.ends)) (inl z), c.requires.2.names, omega (arith, x.begins), omega (arith, x.ends, c.requires.1), omega arith)

pub returns : goal.returns
returns c =
    let x = rw (some_of _ c.ok_or.ensures.value c.in_ok-e.was) at c.state_end.ensures in
    let t = c.args.text.now in
    let w = slice c.args.at c.in_ok-e.e t in
    let n : fault_in c.state_room.result ≡ state_number (declared_of t c.args.d) w = rw (slice-part t c.args.at c.in_ok-e.e (omega (arith, x.begins))) c.state_room.ensures in
    let y = sym n ∙ ap fault_in c.in_ok-state_room.was in
    state-added x c.requires.2 c.requires.3 y (state-few t c.args.d w y) c.enter.ensures
