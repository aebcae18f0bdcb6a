use mathlib.Core.Path.{◌≡◌, sym, ◌∙◌, subst}
use mathlib.Core.List.{List}
use Prim.Native.Nat.{ℕ, suc, ◌+◌, ◌-◌, ◌<◌}
use native.Mathlib.Omega.{arith}
use lib.ListN.{length-set}
use lib.Seq.{slice, drop-set-lt}
use Rattle.semantics.specs.Facts.{state}
use Rattle.semantics.specs.Walkers.{Way}
use Rattle.model.specs.Records.{program_of}
use Rattle.search_states.specs.States.{row}
use Rattle.search_states.proofs.Laws.{length-row}
use Rattle.search_ways.specs.Moves.{matrix_bytes}
use Rattle.search_ways.specs.Shortest.{Near, NotBefore}
use Rattle.search_ways.proofs.Marking.{marks-none}
use Rattle.search_ways.proofs.Nearest.{some_near, least-way, not-before, slice-more}
use Rattle.search_ways.proofs.way.Goals as goal

pub reach-k-requires : goal.reach-k-requires
reach-k-requires c =
    let a = c.args in
    (omega (arith, c.requires.1.count), c.requires.5, c.requires.6, marks-none matrix_bytes, some_near a.m c.requires.0 a.s c.requires.1 c.requires.2 a.steps.now c.requires.4 a.from a.to c.requires.5 c.requires.6 c.requires.7)

pub before-u-requires : goal.before-u-requires
before-u-requires c =
    let a = c.args in
    let l = c.loop-j in
    let r = c.reach-k.ensures in
    let e : l.j ≡ suc (l.j - 1) = omega (arith, c.loop-j-test.true) in
    let q = subst (λ (v : ℕ). Near a.steps.now a.s.count v a.from l.t) e l.invariant.1 in (
      omega (arith, c.requires.1.count),
      omega (arith, c.requires.1.count, r.few),
      l.invariant.0,
      (q.0, q.1, ((r.rows.bits (l.j - 1) q.0 (omega (arith, c.requires.1.count, q.1))).1 (omega (arith, l.invariant.0), q.2), q.3)),
    )

pub loop-j-preserved : goal.loop-j-preserved
loop-j-preserved c =
    let a = c.args in
    let l = c.loop-j in
    let k = c.reach-k.result in
    let r = c.reach-k.ensures in
    let b = c.before-u.ensures in
    let u = c.before-u.result in
    let x = c.line_to.result in
    let e : l.j ≡ l.j - 1 + 1 = omega (arith, c.loop-j-test.true) in
    let g : l.j - 1 < k = omega (arith, c.loop-j-test.true) in
    let f = subst (λ (v : ℕ). NotBefore a.steps.now a.s.count v a.from l.t) e l.invariant.2 in
    let w = subst (λ (v : ℕ). Way (program_of a.m) (row a.s) (state (row a.s) l.t) (slice v k l.out) (state (row a.s) a.to)) e l.invariant.4 in (
      b.0,
      ((r.rows.bits (l.j - 1) u (omega (arith, c.requires.1.count, b.0))).0 b.1.0).1,
      not-before a.steps.now a.s.count (l.j - 1) a.from u l.t b.0 f b.1.1,
      length-set l.out (l.j - 1) x ∙ l.invariant.3,
      subst (λ (ls : List ℕ). Way (program_of a.m) (row a.s) (state (row a.s) u) ls (state (row a.s) a.to)) (sym (slice-more l.out (l.j - 1) k x g (omega (arith, l.invariant.3, r.few, c.requires.8)))) (state (row a.s) l.t, c.line_to.ensures, w),
      drop-set-lt k l.out (l.j - 1) x g ∙ l.invariant.5,
    )

pub returns : goal.returns
returns c =
    let a = c.args in
    let l = c.loop-j in
    let k = c.reach-k.result in
    let r = c.reach-k.ensures in
    let e : l.j ≡ 0 = omega (arith, c.loop-j-test.false) in
    let q = subst (λ (v : ℕ). Near a.steps.now a.s.count v a.from l.t) e l.invariant.1 in
    let w = subst (λ (v : ℕ). Way (program_of a.m) (row a.s) (state (row a.s) l.t) (slice v k l.out) (state (row a.s) a.to)) e l.invariant.4 in
    record {
      few = omega (arith, r.few, length-row a.s c.requires.1);
      way = subst (λ (v : ℕ). Way (program_of a.m) (row a.s) (state (row a.s) v) (slice 0 k l.out) (state (row a.s) a.to)) (sym q) w;
      least = least-way a.m c.requires.0 a.s c.requires.1 c.requires.2 a.steps.now c.requires.4 a.from a.to c.requires.5 c.requires.6 k r.least;
      rest = l.invariant.5;
    }
