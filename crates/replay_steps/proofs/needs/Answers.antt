use mathlib.Core.Path.{sym, ap, ◌∙◌, subst}
use Prim.Native.Nat.{ℕ}
use lib.ListN.{drop}
use Rattle.model.proofs.Bodies as bodies
use Rattle.semantics.specs.Models.{line}
use Rattle.model.specs.Records.{program_of}
use Rattle.model.proofs.Lines.{line_other}
use Rattle.facts_rests.specs.Rests.{Within}
use Rattle.replay_steps.specs.Tries.{line_body}
use Rattle.replay_steps.proofs.Steps.{own_body, own-good}
use Rattle.replay_steps.proofs.needs.Goals as goal

pub returns-in_default : goal.returns-in_default
returns-in_default c =
    let a = c.args in
    λ o. subst (Within _) (sym (ap line_body (line_other a.m.now a.line c.in_default.ensures))) tt

pub add-requires : goal.add-requires
add-requires c =
    let m = c.args.m.now in
    let f = c.in-Some in
    let g = f.ensures in
    (f.c.variables, rw c.body.ensures (bodies.own-good (drop f.c.first m.literals) f.c.count f.c.variables (own-good m c.requires g.0 g.1 f.c g.2)))

pub returns : goal.returns
returns c =
    let a = c.args in
    let f = c.in-Some in
    let g = f.ensures in
    let same = ap (λ (x : ℕ). line_body (line (program_of a.m.now) x)) (sym g.3) ∙ own_body a.m.now c.requires g.0 g.1 f.c g.2 in
    λ o. subst (Within c.add.result) (sym same) (rw (c.body.ensures, bodies.own-body (drop f.c.first a.m.now.literals) f.c.count (own-good a.m.now c.requires g.0 g.1 f.c g.2).within) at c.add.ensures.2)
