use mathlib.Core.Path.{ap}
use mathlib.Core.Bool.{Bool, ◌||◌}
use Prim.Native.Nat.{◌-◌}
use lib.ListN.{drop}
use Rattle.grammar.specs.Declarations.{member}
use Rattle.display_parts.specs.Placed.{spaced}
use mathlib.Core.Path.{sym, ◌∙◌}
use Rattle.display_variables.proofs.Laws.{before-member}
use Rattle.display_variables.proofs.is_known.Goals as goal

pub returns-then-is_head : goal.returns-then-is_head
returns-then-is_head c =
    let a = c.args in
    let known = member a.name.now (spaced (a.i - a.p.from) (drop a.p.from a.line.now)) in
    c.if-is_head.true ∙ sym (before-member a.line.now a.p a.i a.name.now ∙ ap (λ (b : Bool). b || known) (sym c.is_head.ensures ∙ c.if-is_head.true))

pub returns-else-is_head : goal.returns-else-is_head
returns-else-is_head c =
    let a = c.args in
    c.stands.ensures ∙ sym (before-member a.line.now a.p a.i a.name.now ∙ rw (sym c.is_head.ensures ∙ c.if-is_head.false))
