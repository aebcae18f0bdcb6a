use mathlib.Core.Path.{◌≡◌, refl, sym, ap, ◌∙◌}
use mathlib.Core.Bool.{true, false}
use Prim.Native.Nat.{ℕ}
use native.Mathlib.Omega.{arith}
use Rattle.std.specs.Prelude.{Option, None, Some}
use Rattle.std.specs.Option.{is_some}
use Rattle.handin.specs.Answers.{told}
use Rattle.handin.proofs.Laws.{run_end, run-full, run-bad, run_more}
use Rattle.handin.proofs.read_places.Goals as goal
use Rattle.handin.proofs.read_places.Goals.{then-places-eq-RUN-via-then-places-eq-RUN, then-places-eq-RUN-via-else-places-eq-RUN+then-is_none}

none_said : (o : Option ℕ) → is_some o ≡ false → o ≡ None
none_said None e = refl
none_said (Some n) e = cc

some_said : (o : Option ℕ) → is_some o ≡ true → (n : ℕ) × (o ≡ Some n)
some_said None e = cc
some_said (Some n) e = (n, refl)

pub returns-then-places-eq-RUN : goal.returns-then-places-eq-RUN
returns-then-places-eq-RUN c =
    let so = c.loop-line.invariant.1 in
    let f = c.in-Some.ensures.steps in
    elim c.then-places-eq-RUN.branch [
      | then-places-eq-RUN-via-then-places-eq-RUN w ↦ ap told (sym (run-full so c.args.first f w.if-places-eq-RUN.true))
      | then-places-eq-RUN-via-else-places-eq-RUN+then-is_none w ↦ ap told (sym (run-bad so c.args.first f (sym w.read_place.ensures ∙ none_said _ w.if-is_none.ensures)))
    ]

pub loop-line-preserved : goal.loop-line-preserved
loop-line-preserved c =
    let v = c.loop-line.invariant in
    (v.0, (run_more v.1 c.in-Some.ensures.steps (sym c.read_place.ensures ∙ (some_said _ c.if-is_none.ensures).1) (omega (arith, v.1.few, c.if-places-eq-RUN.false))).0)

pub returns : goal.returns
returns c = let so = c.loop-line.invariant.1 in rw (run_end so c.args.first c.in-None.ensures.steps, so.count)
