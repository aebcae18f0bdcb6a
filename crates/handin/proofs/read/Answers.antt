use mathlib.Core.Path.{sym, ap, ◌∙◌}
use native.Mathlib.Omega.{arith}
use Rattle.std.proofs.Common.{rules}
use Rattle.std.specs.Prelude.{Some, None}
use Rattle.grammar.specs.Bytes.{lines}
use Rattle.handin.specs.Handins.{preface}
use Rattle.handin.specs.Answers.{told}
use Rattle.handin.proofs.Laws.{reading-long, reading-first}
use Rattle.handin.proofs.read.Goals as goal

pub returns-then-handin-gt-HANDIN : goal.returns-then-handin-gt-HANDIN
returns-then-handin-gt-HANDIN c = ap told (sym (reading-long c.args.handin.now c.if-handin-gt-HANDIN.true))

pub returns-in-Some-true : goal.returns-in-Some-true
returns-in-Some-true c =
    let e = c.in-Some-true in
    let said = reading-first (record { left = c.args.handin }) c.next.result c.next.new.self (Some e.field-0) (omega (arith, c.if-handin-gt-HANDIN.false)) c.next.ensures.steps e.ensures (λ x k. search rules) in
    c.after_yes.ensures ∙ ap told (sym (said ∙ ap (λ b. preface b 2 (lines c.next.new.self.left.now)) e.field-0-test))

pub returns-in-Some-false : goal.returns-in-Some-false
returns-in-Some-false c =
    let e = c.in-Some-false in
    let said = reading-first (record { left = c.args.handin }) c.next.result c.next.new.self (Some e.field-0) (omega (arith, c.if-handin-gt-HANDIN.false)) c.next.ensures.steps e.ensures (λ x k. search rules) in
    c.after_no.ensures ∙ ap told (sym (said ∙ ap (λ b. preface b 2 (lines c.next.new.self.left.now)) e.field-0-test))

pub returns-in-None : goal.returns-in-None
returns-in-None c = ap told (sym (reading-first (record { left = c.args.handin }) c.next.result c.next.new.self None (omega (arith, c.if-handin-gt-HANDIN.false)) c.next.ensures.steps c.in-None.ensures (λ x k. search rules)))
