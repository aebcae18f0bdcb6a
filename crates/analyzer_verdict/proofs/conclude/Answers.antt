use mathlib.Core.Path.{◌≡◌, subst}
use mathlib.Core.Bool.{true}
use Rattle.semantics.specs.Questions.{Verdict}
use Rattle.model.specs.Records.{program_of, question_of}
use Rattle.analyzer_verdict.proofs.Laws.{shown}
use Rattle.analyzer_verdict.proofs.conclude.Goals as goal
use Rattle.analyzer_verdict.proofs.conclude.Goals.{Else-not-found}

-- the search says reached
reached : (c : Else-not-found) → c.args.found.reached ≡ true
reached c = c.if-not-found.false

pub returns : goal.returns
returns c =
    let w = c.witness-places in (
      c.requires.1.explored.few,
      subst (Verdict (program_of c.args.m) (question_of c.args.m)) (reached (goal.at.returns c).Else-not-found) c.requires.1.verdict,
      shown c.args.m c.requires.0 c.args.run.now _ w.result _ w.ensures c.place_of-last.ensures,
    )
