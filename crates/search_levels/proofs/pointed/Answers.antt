use mathlib.Core.Path.{subst}
use mathlib.Core.List.{List}
use Prim.Native.Nat.{ℕ, ◌<◌}
use Rattle.std.specs.Prelude.{Option, IfSome}
use Rattle.search_levels.proofs.Aiming.{pointed-fixed}
use Rattle.search_levels.proofs.pointed.Goals as goal

pub returns-in-Some-first : goal.returns-in-Some-first
returns-in-Some-first c =
    let a = c.args in
    let some = subst (λ (o : Option (List ℕ)). IfSome o (λ among. 0 < a.variables)) c.in-Some.is c.requires.1 in
    λ S R m. rw c.get.ensures (pointed-fixed S a.work.now a.body.now a.variables a.c a.p c.shows.result (c.shows.ensures S R m) c.if-not-shows.false c.in-Some.among c.in-Some.is some c.in-Some-first.e c.in-Some-first.is)
