use mathlib.Core.Path.{◌∙◌}
use Rattle.text_scan.proofs.Laws.{alphanumeric-ascii}
use Rattle.text_scan.proofs.is_alphanumeric.Goals as goal

pub returns : goal.returns
returns c = c.is_ascii_alphanumeric.ensures.value ∙ alphanumeric-ascii c.args.b
