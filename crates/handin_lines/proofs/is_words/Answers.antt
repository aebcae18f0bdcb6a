use Rattle.handin_lines.proofs.Laws.{left-from, words-start, words_more, words-none, words-end}
use Rattle.handin_lines.proofs.is_words.Goals as goal

pub loop-e-init : goal.loop-e-init
loop-e-init c = words-start c.args.line.now

pub returns-then-e-eq1 : goal.returns-then-e-eq1
returns-then-e-eq1 c = words-none c.loop-e.invariant (c.at_byte.ensures.found c.loop-e-test.true).1 c.word_end-e.ensures c.if-e-eq1.true

pub loop-e-preserved : goal.loop-e-preserved
loop-e-preserved c =
    rw (left-from c.loop-e.left.now c.word_end-e.result) (words_more c.loop-e.invariant (c.at_byte.ensures.found c.loop-e-test.true).1 c.word_end-e.ensures c.if-e-eq1.false)

pub returns : goal.returns
returns c = words-end c.loop-e.invariant (c.at_byte.ensures.missing c.loop-e-test.false) c.ends.ensures
