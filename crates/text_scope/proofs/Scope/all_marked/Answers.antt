use mathlib.Core.Path.{◌∙◌, sym}
use native.Mathlib.Omega.{arith}
use lib.ListN.{take}
use Rattle.std.proofs.Common.{rules, tests}
use Rattle.std.proofs.lemmas.Iterator.{YieldsList-from_slice}
use Rattle.std.proofs.lemmas.Iterator.Search.{all_from_yields_List}
use Rattle.text_scope.specs.Scopes.{marks_of}
use Rattle.text_scope.proofs.Laws.{marked-all}
use Rattle.text_scope.proofs.Scope.all_marked.Goals as goal

pub returns : goal.returns
unfolding marks_of
returns g c =
    let s = c.args.self.now in
    all_from_yields_List (λ v. v.marked) _ _ c.all.result c.all.ensures.ran (YieldsList-from_slice (take s.count s.variables) (search rules)) (λ x b q k. search (rules, tests))
    ∙ sym (marked-all s.variables s.count (omega (arith, c.requires)))
