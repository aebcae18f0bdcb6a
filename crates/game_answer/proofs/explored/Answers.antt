use mathlib.Core.Path.{refl, sym, ap, ◌∙◌}
use mathlib.Core.Logic.{inr}
use Rattle.std.specs.Prelude.{Err}
use Rattle.rows.proofs.Options.{passed, none_of}
use Rattle.model.specs.Records.{stage_of, number_in, stage_at}
use Rattle.game_lists.proofs.Laws.{form_of}
use Rattle.game_answer.proofs.explored.Goals as goal

pub returns-in_err-found : goal.returns-in_err-found
returns-in_err-found c =
    let m = c.args.m in
    let p = passed c.in_err-found.was c.from_residual.ensures.1 in
    let n = none_of _ c.ok_or.ensures.value p.2 in
    rw (p.1 ∙ sym (ap Err n.1)) (inr (inr (refl, c.requires.2, (stage_of m.literals (stage_at m 0), number_in (stage_at m 0) 0, form_of m c.requires.0 c.requires.3), rw n.0 at c.explore.ensures.0, c.wipe.ensures)), refl)
