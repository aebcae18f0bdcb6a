use mathlib.Core.Path.{◌∙◌}
use Rattle.std.proofs.lemmas.List.{take_rest}
use Rattle.text_scan.proofs.Laws.{bytes_next}
use Rattle.text_scan.proofs.at_bytes.Goals as goal

pub returns : goal.returns
returns c = bytes_next c.requires (c.starts_with.ensures.value ∙ rw (take_rest c.args.text.now c.args.at))
