use mathlib.Core.Path.{sym, ◌∙◌}
use Rattle.handin_lines.proofs.Shapes.{verdict-yes, verdict-reached, verdict-no, verdict-unreached, verdict-none}
use Rattle.handin_lines.proofs.read_verdict.Goals as goal
use Rattle.handin_lines.proofs.read_verdict.Goals.{then-same_words-via-then-same_words, then-same_words-via-else-same_words+then-same_words-2}
use Rattle.handin_lines.proofs.read_verdict.Goals.{then-same_words-3-via-then-same_words-3, then-same_words-3-via-else-same_words-3+then-same_words-4}

pub returns-then-same_words : goal.returns-then-same_words
returns-then-same_words c =
    let s = c.args.line.now in
    let yes = sym c.same_words.ensures in
    elim c.then-same_words.branch [
      | then-same_words-via-then-same_words w ↦ verdict-yes s (yes ∙ w.if-same_words.true)
      | then-same_words-via-else-same_words+then-same_words-2 w ↦ verdict-reached s (yes ∙ w.if-same_words.false) (sym w.same_words-else-same_words.ensures ∙ w.if-same_words-2.true)
    ]

pub returns-then-same_words-3 : goal.returns-then-same_words-3
returns-then-same_words-3 c =
    let s = c.args.line.now in
    let yes = sym c.same_words.ensures ∙ c.if-same_words.false in
    let reached = sym c.same_words-else-same_words.ensures ∙ c.if-same_words-2.false in
    let no = sym c.same_words-2.ensures in
    elim c.then-same_words-3.branch [
      | then-same_words-3-via-then-same_words-3 w ↦ verdict-no s yes reached (no ∙ w.if-same_words-3.true)
      | then-same_words-3-via-else-same_words-3+then-same_words-4 w ↦
          verdict-unreached s yes reached (no ∙ w.if-same_words-3.false) (sym w.same_words-else-same_words-3.ensures ∙ w.if-same_words-4.true)
    ]

pub returns : goal.returns
returns c =
    verdict-none c.args.line.now (sym c.same_words.ensures ∙ c.if-same_words.false) (sym c.same_words-else-same_words.ensures ∙ c.if-same_words-2.false)
    (sym c.same_words-2.ensures ∙ c.if-same_words-3.false) (sym c.same_words-else-same_words-3.ensures ∙ c.if-same_words-4.false)
