use mathlib.Core.Path.{◌∙◌}
use mathlib.Core.Bool.{not}
use Prim.Native.Nat.{ℕ}
use Rattle.std.proofs.Common.{rules, tests}
use Rattle.std.proofs.lemmas.Iterator.{YieldsList-from_slice}
use Rattle.std.proofs.lemmas.Iterator.Search.{any_from_yields_List}
use Rattle.semantics.specs.Models.{line}
use Rattle.model.specs.Records.{program_of}
use Rattle.game_lists.specs.Lists.{is_next}
use Rattle.game_lists.proofs.Laws.{list_any-strange}
use Rattle.game_lists.proofs.strange.Goals as goal

pub returns : goal.returns
returns c =
    let P = program_of c.args.m in
    any_from_yields_List (λ (ℓ : ℕ). not (is_next (line P ℓ))) _ _ _ c.any.ensures.ran (YieldsList-from_slice c.args.list.now cc) (λ x b q k. search (rules, tests)) ∙ list_any-strange P c.args.list.now
