use mathlib.Core.Path.{◌≡◌, refl, ap, subst}
use Rattle.std.specs.Prelude.{Result, Ok, Err, Option, Some, IfSome}
use Rattle.std.specs.Result.{result_ok}
use Rattle.display.proofs.Laws.{no-relation, declared-relation}
use Rattle.display.proofs.relation.Goals as goal

-- what `ok` makes a value of
ok_of : {A E : Type 0} {a : A} (r : Result A E) → Some a ≡ result_ok r → r ≡ Ok a
ok_of {A} {E} {a} (Ok b) z = ap Ok (subst (λ (s : Option A). IfSome s (λ w. w ≡ a)) z refl)
ok_of (Err x) z = cc

pub returns-then-m-i : goal.returns-then-m-i
returns-then-m-i c = let a = rw (ok_of _ c.in_ok-m.ensures.value) at c.read.ensures in no-relation c.args.text.now _ a c.args.i c.if-m-i.true

pub returns : goal.returns
returns c =
    let a = rw (ok_of _ c.in_ok-m.ensures.value) at c.read.ensures in
    let e = c.recorded.ensures in
    declared-relation c.args.text.now _ a c.args.i c.if-m-i.false c.recorded.result e.0 e.1 e.2
