use mathlib.Core.Path.{sym, ◌∙◌}
use Rattle.semantics.proofs.Tools.{clash}
use Rattle.search_levels.proofs.Passing.{met-none}
use Rattle.search_levels.proofs.met.Goals as goal

pub returns : goal.returns
returns c = let a = c.args in λ S R n. met-none S a.work.now a.body.now a.t a.row a.f (sym c.is_some.ensures ∙ c.if-is_some.false) (λ q. clash ((c.holds.ensures S R n).1 q) c.if-holds.false)
