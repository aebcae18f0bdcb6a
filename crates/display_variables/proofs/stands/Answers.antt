use mathlib.Core.Path.{refl, ◌∙◌}
use Prim.Native.Nat.{◌-◌}
use native.Mathlib.Omega.{arith}
use Rattle.std.proofs.Common.{rules, tests}
use Rattle.std.proofs.lemmas.Iterator.{YieldsList-from_range}
use Rattle.std.proofs.lemmas.Iterator.Search.{any_from_yields_List}
use Rattle.grammar.specs.Declarations.{member}
use Rattle.display_variables.specs.Order.{behind_at}
use Rattle.display_variables.proofs.Laws.{stands-any}
use Rattle.display_variables.proofs.stands.Goals as goal

pub returns : goal.returns
returns c =
    let a = c.args in
    any_from_yields_List (λ i. member a.name.now (behind_at a.line.now i)) _ _ c.any.result c.any.ensures.ran (YieldsList-from_range a.from a.to (a.to - a.from) refl refl) (λ x b q k. search (rules, tests))
    ∙ stands-any a.line.now a.name.now (a.to - a.from) a.from (omega (arith, c.requires))
