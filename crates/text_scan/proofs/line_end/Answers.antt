use mathlib.Core.Path.{◌≡◌, refl, ◌∙◌}
use mathlib.Core.Bool.{true, false}
use lib.ListN.{drop}
use Rattle.std.proofs.Common.{rules, tests}
use Rattle.std.specs.Prelude.{None, Some}
use Rattle.std.proofs.lemmas.List.{take_rest}
use Rattle.std.proofs.lemmas.Iterator.{YieldsList-from_slice, IsFirst-from_position}
use Rattle.grammar.specs.Bytes.{allowed}
use Rattle.text_scan.proofs.Laws.{line-good, line-stops}
use Rattle.text_scan.proofs.line_end.Goals as goal

pub returns-in_err-n : goal.returns-in_err-n
returns-in_err-n c =
    let a = c.args in
    let h = IsFirst-from_position _ _ None (λ b. allowed b ≡ false) (λ b. allowed b ≡ true) c.in_err-n.ensures.ran (YieldsList-from_slice (drop a.at a.text.now) (c.iter.ensures.rest ∙ take_rest a.text.now a.at)) (λ x q k. search (rules, tests)) (λ x q k. search (rules, tests)) in
    rw c.from_residual.ensures (line-good a.text.now a.at c.requires h)

pub returns : goal.returns
returns c =
    let a = c.args in
    let h = IsFirst-from_position _ _ (Some c.in_ok-n.n) (λ b. allowed b ≡ false) (λ b. allowed b ≡ true) c.in_ok-n.ensures.ran (YieldsList-from_slice (drop a.at a.text.now) (c.iter.ensures.rest ∙ take_rest a.text.now a.at)) (λ x q k. search (rules, tests)) (λ x q k. search (rules, tests)) in
    rw c.then_some.ensures (line-stops a.text.now a.at c.requires c.in_ok-n.n _ h.0 h.2 (h.1 0) refl)
