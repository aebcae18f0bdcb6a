use mathlib.Core.Path.{sym, ap, ◌∙◌}
use mathlib.Core.Bool.{false}
use borrow.Author.Tests.{eqb-true, eqb-false}
use Rattle.handin.specs.Answers.{told}
use Rattle.handin.proofs.Laws.{follows-more, follows-none}
use Rattle.handin.proofs.after_no.Goals as goal

pub returns-then-is_empty : goal.returns-then-is_empty
returns-then-is_empty c = ap told (sym (c.preface_end-s.ensures.read false ∙ follows-none c.preface_end-s.result.left.now c.preface_end-s.result.line (eqb-true _ 0 (sym c.if-is_empty.ensures))))

pub returns-else-is_empty : goal.returns-else-is_empty
returns-else-is_empty c = ap told (sym (c.preface_end-s.ensures.read false ∙ follows-more c.preface_end-s.result.left.now c.preface_end-s.result.line (eqb-false _ 0 (sym c.if-is_empty.ensures))))
