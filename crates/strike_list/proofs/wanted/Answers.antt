use mathlib.Core.Logic.{⊎_elim}
use mathlib.Core.Path.{◌∙◌}
use Rattle.strike_model.proofs.Laws.{list_any-elem}
use Rattle.strike_list.proofs.wanted.Goals as goal

pub returns-in-New : goal.returns-in-New
returns-in-New c =
    let e = c.contains.ensures.value ∙ list_any-elem c.args.line c.args.list.now in
    ⊎_elim (λ n. rw n.1 e) (λ n. rw n.2 e) c.in-New.is
