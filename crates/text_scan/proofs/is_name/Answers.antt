use mathlib.Core.Path.{◌≡◌, sym, ◌∙◌}
use mathlib.Core.Logic.{inl, inr}
use native.Mathlib.Omega.{arith}
use lib.ListN.{length}
use Rattle.text_scan.proofs.Laws.{named, nameless}
use borrow.Author.Tests.{eqb-true, eqb-false}
use Rattle.text_scan.proofs.is_name.Goals as goal
use Rattle.text_scan.proofs.is_name.Goals.{then-is_empty-via-then-is_empty, then-is_empty-via-else-is_empty+then-word-gt-NAME, then-is_empty-via-else-is_empty+else-word-gt-NAME+then-same_words}

pub returns-then-is_empty : goal.returns-then-is_empty
returns-then-is_empty c = sym (nameless c.args.word.now (elim c.then-is_empty.branch [
  | then-is_empty-via-then-is_empty w ↦ inl (eqb-true _ 0 (sym c.is_empty.ensures ∙ w.if-is_empty.true))
  | then-is_empty-via-else-is_empty+then-word-gt-NAME w ↦ inr (inl w.if-word-gt-NAME.true)
  | then-is_empty-via-else-is_empty+else-word-gt-NAME+then-same_words w ↦ inr (inr (sym w.same_words.ensures ∙ w.if-same_words.true))
]))

pub returns : goal.returns
returns c =
    let h : length c.args.word.now ≡ 0 → ⊥ = eqb-false _ 0 (sym c.is_empty.ensures ∙ c.if-is_empty.false) in
    c.is_ascii_alphabetic.ensures.value ∙ named c.args.word.now c.requires (omega arith) c.if-word-gt-NAME.false (sym c.same_words.ensures ∙ c.if-same_words.false)
