use mathlib.Core.Path.{◌≡◌, refl, sym, ap, ◌∙◌, subst}
use mathlib.Core.List.{[], ◌∷◌, ◌++◌, reverse}
use Prim.Native.Nat.{ℕ, suc, ◌+◌, ◌-◌, ◌<◌}
use native.Mathlib.Omega.{arith}
use lib.ListN.{length, drop, set, get_or, length-append, length-reverse}
use Rattle.std.proofs.lemmas.List.{drop_all}
use Rattle.std.proofs.lemmas.List.FromFn.{length-enumerate_from}
use Rattle.std.proofs.lemmas.Iterator.Adapters.{YieldsList-from_rev_slice}
use Rattle.std.proofs.lemmas.Iterator.Consumers.{YieldsList-from_enumerate, YieldsList-turn, YieldsList-end}
use Rattle.semantics.specs.Building.{places, with}
use Rattle.model.specs.declared.Place.TheVariants.{Step}
use Rattle.model.specs.Places.{numeral}
use Rattle.witness_table.specs.Runs.{backwards}
use Rattle.witness_table.proofs.Laws.{backwards-none}
use Rattle.witness_walk.proofs.Errands.{line-back, told_more}
use Rattle.witness_walk.proofs.tell.Goals as goal
use Rattle.witness_walk.proofs.tell.Goals.{In-Some}

-- the line of this turn
line-here : (c : In-Some) → let a = c.args in let n = length c.loop-i.yielded in (n < length a.lines.now) × (c.in-Some.i ≡ n) × (c.in-Some.field-0-1.now ≡ get_or a.lines.now (length a.lines.now - suc n) 0)
line-here c =
    let a = c.args in
    let l = c.loop-i in
    line-back a.lines.now (length l.yielded) _ (YieldsList-turn (YieldsList-from_enumerate (YieldsList-from_rev_slice a.lines.now cc) cc) l.yielded _ l.yielded_by _ _ (c.in-Some.i, c.in-Some.field-0-1) c.in-Some.is c.next.ensures.steps)

pub loop-i-init : goal.loop-i-init
loop-i-init c =
    let a = c.args in
    rw (drop_all (length a.lines.now - 0) a.lines.now (omega arith)) (sym (backwards-none a.run.now a.k))

pub loop-i-preserved : goal.loop-i-preserved
loop-i-preserved c =
    let a = c.args in
    let l = c.loop-i in
    let n = length l.yielded in
    let b = line-here (goal.at.loop-i-preserved c).In-Some in
    let more : length (l.yielded ++ ((c.in-Some.i, c.in-Some.field-0-1) ∷ [])) ≡ n + 1 = length-append l.yielded ((c.in-Some.i, c.in-Some.field-0-1) ∷ []) in
    let h = subst (λ (i : ℕ). l.run ≡ backwards a.run.now a.k (places (with a.object (drop i a.lines.now)))) {y = suc (length a.lines.now - suc n)} (omega (arith, b.0)) l.invariant in
    subst (λ (i : ℕ). set l.run (a.k + c.in-Some.i) c.number_of.result ≡ backwards a.run.now a.k (places (with a.object (drop i a.lines.now)))) {x = length a.lines.now - suc n} (omega (arith, more))
    (told_more a.run.now a.lines.now a.k a.object c.requires.0 l.run (length a.lines.now - suc n) (a.k + c.in-Some.i) c.number_of.result (omega (arith, b.0)) (omega (arith, b.0, b.1)) h
    (c.number_of.ensures ∙ ap (λ (x : ℕ). numeral (Step x a.object)) b.2))

pub returns : goal.returns
returns c =
    let a = c.args in
    let l = c.loop-i in
    let t = YieldsList-end (YieldsList-from_enumerate (YieldsList-from_rev_slice a.lines.now cc) cc) l.yielded _ l.yielded_by _ _ c.in-None.is c.next.ensures.steps in
    let e : length a.lines.now - length l.yielded ≡ 0 = omega (arith, t.1, length-enumerate_from 0 (reverse a.lines.now), length-reverse a.lines.now) in
    (refl, subst (λ (i : ℕ). l.run ≡ backwards a.run.now a.k (places (with a.object (drop i a.lines.now)))) e l.invariant)
