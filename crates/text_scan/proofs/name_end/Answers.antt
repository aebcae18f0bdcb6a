use mathlib.Core.Path.{◌∙◌}
use Rattle.text_scan.proofs.Laws.{name_chosen, slice-part, every-slice}
use Rattle.text_scan.proofs.name_end.Goals as goal

pub is_name-requires : goal.is_name-requires
is_name-requires c = let e = c.word_end-end.ensures in rw (← slice-part c.args.text.now c.args.at c.word_end-end.result e.begins) (every-slice e)

pub returns : goal.returns
returns c =
    let e = c.word_end-end.ensures in
    rw c.then_some.ensures (name_chosen e _ (c.is_name.ensures ∙ rw (slice-part c.args.text.now c.args.at c.word_end-end.result e.begins)))
