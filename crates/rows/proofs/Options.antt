-- What `ok_or` makes of none and of a value, and what `?` passes on.
use mathlib.Core.Path.{◌≡◌, refl, sym, ap, subst, ◌∙◌}
use Rattle.std.specs.Prelude.{Option, Some, None, Result, Ok, Err, IfOk, IfErr, IsErrAnd, ok_or}

module _ {A E : Type 0} {o : Option A} {r : Result A E} (x : E) where
  pub none_of : {y : E} → r ≡ ok_or o x → r ≡ Err y → (o ≡ None) × (x ≡ y)
  none_of {y} e q = given o (sym e ∙ q)
    where
      given : (p : Option A) → ok_or p x ≡ Err y → (p ≡ None) × (x ≡ y)
      given None z = (refl, subst (λ (s : Result A E). IfErr s (λ w. x ≡ w)) z refl)
      given (Some a) z = cc

  pub some_of : {a : A} → r ≡ ok_or o x → r ≡ Ok a → o ≡ Some a
  some_of {a} e q = given o (sym e ∙ q)
    where
      given : (p : Option A) → ok_or p x ≡ Ok a → p ≡ Some a
      given None z = cc
      given (Some b) z = ap Some (subst (λ (s : Result A E). IfOk s (λ w. b ≡ w)) z refl)

pub passed : {A B E : Type 0} {r : Result A E} {x : Result B E} {e : E} → r ≡ Err e → IsErrAnd x (λ y. y ≡ e) → (y : E) × (x ≡ Err y) × (r ≡ Err y)
passed {x = Ok b} q h = absurd h
passed {x = Err y} q h = (y, refl, rw h q)
