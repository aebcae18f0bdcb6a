use mathlib.Core.Path.{refl, sym, ap, ◌∙◌}
use mathlib.Core.List.{[], ◌∷◌}
use native.Mathlib.Omega.{arith}
use Rattle.std.specs.Prelude.{Err}
use Rattle.rows.proofs.Options.{passed, none_of, some_of}
use Rattle.text_faults.specs.Faults.{unshaped}
use Rattle.text_stages.proofs.Adding.{none-aside}
use Rattle.text_ask.proofs.Laws.{aside-more, aside-carrying}
use Rattle.text_ask.proofs.Ending.{no_words, none-held, ask-unopened, ask-unread, ask-unended, ask-ended}
use Rattle.text_ask.proofs.read_ask.Goals as goal

pub returns-in_err-b : goal.returns-in_err-b
returns-in_err-b c =
    let p = passed c.in_err-b.was c.from_residual.ensures.1 in
    let n = none_of _ c.ok_or.ensures.value p.2 in
    (unshaped (ask-unopened c.args.text.now c.args.at (rw n.0 at c.read_stage.ensures)) (p.1 ∙ sym (ap Err n.1)), none-aside, rw p.1 refl)

pub add-f-requires : goal.add-f-requires
add-f-requires c = let w = no_words c.empty-s.ensures in let h = none-held c.requires.4 w c.empty-s.ensures.0 in let q = rw (some_of _ c.ok_or.ensures.value c.in_ok-b.was) at c.read_stage.ensures in record { D = _; m₀ = _; qs = []; q = q.q; few = omega arith; holds = h; frame = q.holds }

pub read_stages-requires : goal.read_stages-requires
read_stages-requires c = let w = no_words c.empty-s.ensures in let h = none-held c.requires.4 w c.empty-s.ensures.0 in let q = rw (some_of _ c.ok_or.ensures.value c.in_ok-b.was) at c.read_stage.ensures in (q.ends, c.requires.2, c.requires.3, (c.args.m.now, q.q ∷ [], omega arith, c.add-f.ensures.added _ _ [] q.q (omega arith) h q.holds))

pub returns-in_err-r : goal.returns-in_err-r
returns-in_err-r c =
    let q = rw (some_of _ c.ok_or.ensures.value c.in_ok-b.was) at c.read_stage.ensures in
    let p = passed c.in_err-r.was c.from_residual-in_err-r.ensures.1 in
    let n = none_of _ c.ok_or-2.ensures.value p.2 in
    (unshaped (ask-unread c.args.text.now c.args.at q (rw n.0 at c.read_stages.ensures.0)) (p.1 ∙ sym (ap Err n.1)), none-aside, rw p.1 refl)

pub returns-then-r-text : goal.returns-then-r-text
returns-then-r-text c = let w = no_words c.empty-s.ensures in let h = none-held c.requires.4 w c.empty-s.ensures.0 in let q = rw (some_of _ c.ok_or.ensures.value c.in_ok-b.was) at c.read_stage.ensures in (unshaped (ask-unended c.args.text.now c.args.at q h c.add-f.ensures (rw (some_of _ c.ok_or-2.ensures.value c.in_ok-r.was) at c.read_stages.ensures.0) c.if-r-text.true) refl, none-aside, refl)

pub returns-in_err-asked : goal.returns-in_err-asked
returns-in_err-asked c = let w = no_words c.empty-s.ensures in let h = none-held c.requires.4 w c.empty-s.ensures.0 in let q = rw (some_of _ c.ok_or.ensures.value c.in_ok-b.was) at c.read_stage.ensures in let p = passed c.in_err-asked.was c.from_residual-in_err-asked.ensures.1 in (rw p.1 (ask-ended c.args.text.now c.args.at q h c.add-f.ensures (rw (some_of _ c.ok_or-2.ensures.value c.in_ok-r.was) at c.read_stages.ensures.0) c.requires.4 c.if-r-text.false (rw p.2 at c.finish.ensures) _), none-aside, rw p.1 refl)

pub returns : goal.returns
returns c = let w = no_words c.empty-s.ensures in let h = none-held c.requires.4 w c.empty-s.ensures.0 in let q = rw (some_of _ c.ok_or.ensures.value c.in_ok-b.was) at c.read_stage.ensures in (ask-ended c.args.text.now c.args.at q h c.add-f.ensures (rw (some_of _ c.ok_or-2.ensures.value c.in_ok-r.was) at c.read_stages.ensures.0) c.requires.4 c.if-r-text.false c.in_ok-asked.ensures, aside-carrying (aside-more c.add-f.ensures.aside c.read_stages.ensures.1), tt)
