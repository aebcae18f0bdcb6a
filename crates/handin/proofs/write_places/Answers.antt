use native.Mathlib.Omega.{arith}
use mathlib.Core.Path.{refl, sym, ◌∙◌}
use Rattle.handin.proofs.Laws.{run-start, run-bad, no-yes, some-there, run_more, table-length, table_more, table-end, run_room}
use Rattle.handin.proofs.write_places.Goals as goal

pub loop-k-init : goal.loop-k-init
loop-k-init c =
    let p = c.requires in
    let e = c.enumerate-k-items.ensures in
    rw (c.into_iter-k-iterator.ensures.into_iter_gives, e.source, e.count) (p.0, p.1, run-start c.args.left.now, refl)

pub unwrap-requires : goal.unwrap-requires
unwrap-requires c =
    let i = c.loop-k.invariant in
    some-there c.read_place.result (λ z. no-yes (sym (run-bad i.2 i.1.0 c.in-Some.ensures.steps.0 (sym c.read_place.ensures ∙ z)) ∙ i.1.3))

pub bounds-run-k : goal.bounds-run-k
bounds-run-k c =
    let i = c.loop-k.invariant in
    let s = c.in-Some.ensures.steps in
    omega (arith, i.0, s.1, run_room i.2 i.1 s.0, table-length i.2 _ _ i.3 (omega (arith, i.0, i.2.few)))

pub loop-k-preserved : goal.loop-k-preserved
loop-k-preserved c =
    let i = c.loop-k.invariant in
    let s = c.in-Some.ensures.steps in
    let r = run_room i.2 i.1 s.0 in
    let on = run_more i.2 s.0 (sym c.read_place.ensures ∙ c.unwrap.ensures) r in
    rw (s.2, s.1) (i.0, i.1, on.0, table_more i.2 _ _ i.3 (omega (arith, i.0, i.2.few)) _ on.0 on.1 (omega (arith, i.0, r)))

pub returns : goal.returns
returns c =
    let i = c.loop-k.invariant in
    λ n first ps e. table-end i.2 _ _ i.3 (omega (arith, i.0, i.2.few)) n first ps c.in-None.ensures.steps.0 e
