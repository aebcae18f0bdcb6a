use mathlib.Core.Path.{sym, ap, ◌∙◌}
use mathlib.Core.Bool.{true}
use Rattle.handin.specs.Answers.{told}
use Rattle.handin.proofs.Laws.{follows-yes}
use Rattle.handin.proofs.after_yes.Goals as goal

pub returns : goal.returns
returns c = c.read_places.ensures ∙ ap told (sym (c.preface_end-s.ensures.read true ∙ follows-yes c.preface_end-s.result.left.now c.preface_end-s.result.line))
