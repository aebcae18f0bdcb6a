-- `labels::keeps` meets its contract: the four cases are what relabeling does to the relation.
use mathlib.Core.Path.{sym, ◌∙◌}
use Rattle.semantics.proofs.FourCases.{by_cases}
use Rattle.labels.proofs.keeps.Goals as goal

pub returns : goal.returns
returns c =
    let a = c.args in
    c.work.ensures ∙ rw (c.case_of-case.ensures, c.has-3.ensures, c.has.ensures, c.has-2.ensures) (sym (by_cases a.state a.plus a.minus a.relation))
