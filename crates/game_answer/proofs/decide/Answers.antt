use mathlib.Core.Path.{◌≡◌, refl, sym, ap, ◌∙◌}
use mathlib.Core.Logic.{inl, inr}
use mathlib.Core.Bool.{Bool, false, ◌||◌}
use Rattle.semantics.proofs.Tools.{clash}
use Rattle.model.specs.Records.{program_of}
use Rattle.rows.specs.Rows.{number_of}
use Rattle.game_lists.specs.Lists.{faulty}
use Rattle.game_lists.proofs.Laws.{of-form}
use Rattle.game_answer.specs.Telling.{faulted}
use Rattle.game_answer.proofs.decide.Goals as goal
use Rattle.game_answer.proofs.decide.Goals.{Else-faulty-2}

-- neither list is refused
good : (c : Else-faulty-2) → let a = c.args in faulted (program_of a.m) a.attacker.now a.guardian.now ≡ false
good c =
    let a = c.args in
    ap (λ (b : Bool). b || faulty (program_of a.m) a.guardian.now) (sym c.faulty.ensures ∙ c.if-faulty.false) ∙ (sym c.faulty-else-faulty.ensures ∙ c.if-faulty-2.false)

pub returns-then-not-single : goal.returns-then-not-single
returns-then-not-single c =
    let k = c.single in
    let r = c.refusal-then-not-single in
    (inr (inl (ap number_of r.ensures.0, good (goal.at.returns-then-not-single c).Else-faulty-2, (λ f. clash (k.ensures.1 (of-form c.args.m c.requires.0 f.0 f.1 f.2)) c.if-not-single.true), refl)), r.ensures.1)
