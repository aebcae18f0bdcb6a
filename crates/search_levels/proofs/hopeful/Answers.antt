use mathlib.Core.Path.{subst}
use mathlib.Core.List.{List}
use Prim.Native.Nat.{ℕ, ◌*◌}
use Rattle.limits.specs.Limits as limit
use Rattle.search_levels.specs.Passing.{Has, Picked}
use Rattle.search_levels.proofs.Passing.{hopeful-has}
use Rattle.search_levels.proofs.hopeful.Goals as goal

pub returns : goal.returns
returns c =
    let a = c.args in
    let any = c.union-any.result in
    λ S R n. hopeful-has S a.work.now a.body.now a.ways.now a.t a.rows.now a.k any (subst (λ (all : List ℕ). Has any (Picked a.rows.now (limit.listed * a.k) all)) c.full.ensures c.union-any.ensures) c.onward-row.result c.onward-row.ensures c.met.result (c.met.ensures S R n)
