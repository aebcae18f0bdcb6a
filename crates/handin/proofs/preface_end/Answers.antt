use mathlib.Core.Path.{refl, sym}
use Rattle.handin.proofs.Laws.{preface-more, preface-other, preface-all}
use Rattle.handin.proofs.preface_end.Goals as goal

pub returns-then-not-says_nothing : goal.returns-then-not-says_nothing
returns-then-not-says_nothing c =
    let v = c.loop-said.invariant in
    record { small = rw v.1 v.2.small; read = rw v.1 (preface-other v.2 c.in-Some.ensures.steps (sym c.if-not-says_nothing.ensures)) }

pub loop-said-preserved : goal.loop-said-preserved
loop-said-preserved c = let v = c.loop-said.invariant in (v.0, refl, preface-more v.2 c.in-Some.ensures.steps (sym c.if-not-says_nothing.ensures))

pub returns : goal.returns
returns c = let v = c.loop-said.invariant in record { small = rw v.1 v.2.small; read = rw v.1 (preface-all v.2 c.in_default.ensures.steps) }
