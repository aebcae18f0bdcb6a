use mathlib.Core.Path.{◌∙◌}
use native.Mathlib.Omega.{arith}
use Rattle.std.proofs.lemmas.List.{take_rest}
use Rattle.text_scan.proofs.Laws.{word_end}
use Rattle.text_scan.proofs.word_end.Goals as goal

pub overflow_add-result : goal.overflow_add-result
overflow_add-result c = omega (arith, (word_end c.args.text.now c.args.at c.requires (c.word_len.ensures ∙ rw (take_rest c.args.text.now c.args.at))).ends, c.well_formed)

pub returns : goal.returns
returns c = word_end c.args.text.now c.args.at c.requires (c.word_len.ensures ∙ rw (take_rest c.args.text.now c.args.at))
