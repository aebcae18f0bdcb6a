use mathlib.Core.Path.{ap, ◌∙◌}
use mathlib.Core.Bool.{not}
use Prim.Native.Nat.{ℕ}
use lib.ListN.{length}
use Rattle.std.proofs.Common.{rules, tests}
use Rattle.std.specs.Prelude.{Option}
use Rattle.std.specs.Option.{unwrap_or}
use Rattle.std.proofs.lemmas.Iterator.{YieldsList-from_slice}
use Rattle.std.proofs.lemmas.Iterator.Search.{position_from_yields_List}
use Rattle.grammar.specs.Bytes.{alphanumeric}
use Rattle.text_scan.proofs.Laws.{word-position}
use Rattle.text_scan.proofs.word_len.Goals as goal

pub returns : goal.returns
returns c =
    let s = c.args.left.now in
    let found = position_from_yields_List (λ b. not (alphanumeric b)) _ _ c.position.result c.position.ensures.ran (YieldsList-from_slice s cc) (λ x b q k. search (rules, tests)) in
    c.unwrap_or.ensures ∙ ap (λ (o : Option ℕ). unwrap_or o (length s)) found ∙ word-position s
