-- Laws of the shapes of a line: steps, meetings, and the first words.
use mathlib.Core.Path.{◌≡◌, refl, sym, ap, ◌∙◌}
use mathlib.Core.Logic.{⊎_elim}
use mathlib.Core.Bool.{Bool, true, false, cond}
use mathlib.Core.List.{List, [], ◌∷◌, ◌++◌, append-nil}
use mathlib.Core.Option.{Option, none, some, none-ne-some, get_or}
use Prim.Native.Nat.{ℕ, suc}
use native.Mathlib.Omega.{arith}
use lib.Dec.{eqb}
use lib.ListN.{length}
use borrow.Author.Tests.{eqb-true}
use Rattle.std.proofs.lemmas.Bool.{cases_Bool}
use Rattle.semantics.specs.Runs as runs
use Rattle.semantics.specs.Runs.{step, meet}
use Rattle.model.specs.Places.{number_of, numeral}
use Rattle.model.specs.declared.Place.TheVariants.{Step, Meeting}
use Rattle.grammar.specs.Bytes.{bytes, Word, same}
use Rattle.grammar.specs.Shapes.{Read, ◌>>=◌, after, whether, rest, whole}
use Rattle.grammar.proofs.Reading.{onto, onto-nothing, onto-more, rest-closes, rest-ends, rest-fails, rest-item}
use Rattle.handin_lines.specs.Lines.{verdict, number, below, letters, Said, nothing, place, states_rest, atomic_rest, step_rest, meet_rest, line, said_by}
use Rattle.handin_lines.specs.Found.{BelowAt, object, last, met, is_silent, number_said, clear}
use Rattle.handin_lines.specs.declared.Number.{Number}
use Rattle.std.specs.Prelude.{Some, None}
use Rattle.std.specs.Prelude as std
use Rattle.std.specs.Option.{MatchOption}
use denote.Ref.{Bor}
use Rattle.grammar.proofs.Tests.{clash}
use Rattle.handin_lines.proofs.Laws.{space-open}

-- A PLACE, if the line ends with the bracket that is next
end-place : (p : runs.Place) (o : Option (List ℕ)) → cond (last o) (Some (number_of p)) None ≡ number_said (whole (o >>= λ t. some (place p, t)))
end-place p none = refl
end-place p (some []) = refl
end-place p (some (b ∷ s)) = refl

-- STEPS
-- a space and an object, read one after the other
object-then : {B : Type 0} (f : ℕ × List ℕ → Option B) (o : Option (List ℕ)) → (o >>= λ u. below 255 u >>= f) ≡ ((o >>= below 255) >>= f)
object-then f none = refl
object-then f (some t) = refl

pub step-lineless : (s : List ℕ) → below 8388608 s ≡ none → None ≡ number_said (whole (step_rest s))
unfolding step_rest
step-lineless s z = rw z

module _ (l : List ℕ) {n : Number} (stepped : BelowAt 8388608 (below 8388608 l) n) where
  abbrev rest_of : ℕ × List ℕ → Read Said
  rest_of p = after (bytes ")") p.1 >>= λ z. some (place (step n.value p.0), z)

  step-read : step_rest l ≡ (object n.rest.now >>= rest_of)
  unfolding step_rest
  step-read = rw stepped.found (object-then rest_of (after (bytes " ") n.rest.now))

  pub step-objectless : object n.rest.now ≡ none → None ≡ number_said (whole (step_rest l))
  step-objectless z = rw (step-read, z)

  pub step-found : {o : Number} → BelowAt 255 (object n.rest.now) o → met o.rest.now (numeral (Step n.value o.value)) ≡ number_said (whole (step_rest l))
  step-found {o} moved =
      let e : numeral (Step n.value o.value) ≡ number_of (step n.value o.value) = omega (arith, stepped.small, moved.small) in
      rw (step-read, moved.found, e) (end-place (step n.value o.value) (after (bytes ")") o.rest.now))

-- MEETINGS
-- one object more
object-more : (k : ℕ) (s : List ℕ) {x : ℕ} {u : List ℕ} → object s ≡ some (x, u) → rest (below 255) (suc k) s ≡ onto (x ∷ []) (rest (below 255) k u)
object-more k s {x} {u} e = go (after (bytes " ") s) refl
  where
    go : (o : Option (List ℕ)) → after (bytes " ") s ≡ o → rest (below 255) (suc k) s ≡ onto (x ∷ []) (rest (below 255) k u)
    go none p = absurd (none-ne-some _ (rw p at e))
    go (some t) p = rest-item (below 255) k s (space-open s p) p (rw p at e)

-- no object more
object-none : (k : ℕ) (s : List ℕ) → object s ≡ none → rest (below 255) k s ≡ (after (bytes ")") s >>= λ t. some ([], t))
object-none k s e = go (after (bytes ")") s) refl (after (bytes " ") s) refl
  where
    go : (o : Option (List ℕ)) → after (bytes ")") s ≡ o → (p : Option (List ℕ)) → after (bytes " ") s ≡ p → rest (below 255) k s ≡ (o >>= λ t. some ([], t))
    go (some t) c p d = rest-closes (below 255) k s c
    go none c none d = rest-ends (below 255) k s c d
    go none c (some t) d = rest-fails (below 255) k s c d (rw d at e)

-- the objects xs are read, and the bracket ends
met-end : (i : ℕ) (xs : List ℕ) (o : Option (List ℕ))
    → cond (last o) (Some (number_of (meet i xs))) None ≡ number_said (whole (onto xs (o >>= λ t. some ([], t)) >>= λ p. some (place (meet i p.0), p.1)))
met-end i xs none = refl
met-end i xs (some []) = rw append-nil
met-end i xs (some (b ∷ s)) = refl

pub meet-stageless : (s : List ℕ) → below 128 s ≡ none → None ≡ number_said (whole (meet_rest s))
unfolding meet_rest
meet-stageless s z = rw z

module _ (l : List ℕ) {n : Number} (staged : BelowAt 128 (below 128 l) n) where
  -- the objects xs are read up to e, and no more follow
  met-there : (xs : List ℕ) (k : ℕ) (e : List ℕ) (number : ℕ) → number ≡ number_of (meet n.value xs) → rest (below 255) 3 n.rest.now ≡ onto xs (rest (below 255) k e)
      → rest (below 255) k e ≡ (after (bytes ")") e >>= λ t. some ([], t)) → met e number ≡ number_said (whole (meet_rest l))
  unfolding meet_rest
  met-there xs k e number z r s = rw (staged.found, r, s, z) (met-end n.value xs (after (bytes ")") e))

  pub meet-none : object n.rest.now ≡ none → met n.rest.now (numeral (Meeting n.value 255 255 255)) ≡ number_said (whole (meet_rest l))
  meet-none z =
      met-there [] 3 n.rest.now (numeral (Meeting n.value 255 255 255)) (omega (arith, staged.small))
      (sym (onto-nothing (rest (below 255) 3 n.rest.now))) (object-none 3 n.rest.now z)

  module _ {a : Number} (one : BelowAt 255 (object n.rest.now) a) where
    first : rest (below 255) 3 n.rest.now ≡ onto (a.value ∷ []) (rest (below 255) 2 a.rest.now)
    first = object-more 2 n.rest.now one.found

    pub meet_one : object a.rest.now ≡ none → met a.rest.now (numeral (Meeting n.value a.value 255 255)) ≡ number_said (whole (meet_rest l))
    meet_one z =
        met-there (a.value ∷ []) 2 a.rest.now (numeral (Meeting n.value a.value 255 255)) (omega (arith, staged.small, one.small))
        first (object-none 2 a.rest.now z)

    module _ {b : Number} (two : BelowAt 255 (object a.rest.now) b) where
      second : rest (below 255) 3 n.rest.now ≡ onto (a.value ∷ b.value ∷ []) (rest (below 255) 1 b.rest.now)
      second = first ∙ rw (object-more 1 a.rest.now two.found) (onto-more (a.value ∷ []) b.value (rest (below 255) 1 b.rest.now))

      pub meet-two : object b.rest.now ≡ none → met b.rest.now (numeral (Meeting n.value a.value b.value 255)) ≡ number_said (whole (meet_rest l))
      meet-two z =
          met-there (a.value ∷ b.value ∷ []) 1 b.rest.now (numeral (Meeting n.value a.value b.value 255)) (omega (arith, staged.small, one.small, two.small))
          second (object-none 1 b.rest.now z)

      pub meet-three : {c : Number} → BelowAt 255 (object b.rest.now) c → met c.rest.now (numeral (Meeting n.value a.value b.value c.value)) ≡ number_said (whole (meet_rest l))
      unfolding rest
      meet-three {c} three =
          met-there (a.value ∷ b.value ∷ c.value ∷ []) 0 c.rest.now (numeral (Meeting n.value a.value b.value c.value))
          (omega (arith, staged.small, one.small, two.small, three.small))
          (second ∙ rw (object-more 0 b.rest.now three.found) (onto-more (a.value ∷ b.value ∷ []) c.value (rest (below 255) 0 c.rest.now))) refl

-- STEPS AND MEETINGS say a place, and the others none
said-place : (p : runs.Place) (o : Option (List ℕ)) → is_silent (whole (o >>= λ t. some (place p, t))) ≡ false
said-place p none = refl
said-place p (some []) = refl
said-place p (some (b ∷ s)) = refl

step-said : (s : List ℕ) → is_silent (whole (step_rest s)) ≡ false
unfolding step_rest
step-said s = go (below 8388608 s)
  where
    last-of : (ℓ : ℕ) (r : Read ℕ) → is_silent (whole (r >>= λ p. after (bytes ")") p.1 >>= λ z. some (place (step ℓ p.0), z))) ≡ false
    last-of ℓ none = refl
    last-of ℓ (some p) = said-place (step ℓ p.0) (after (bytes ")") p.1)

    object-of : (ℓ : ℕ) (o : Option (List ℕ)) → is_silent (whole (o >>= λ u. below 255 u >>= λ p. after (bytes ")") p.1 >>= λ z. some (place (step ℓ p.0), z))) ≡ false
    object-of ℓ none = refl
    object-of ℓ (some u) = last-of ℓ (below 255 u)

    go : (r : Read ℕ) → is_silent (whole (r >>= λ q. after (bytes " ") q.1 >>= λ u. below 255 u >>= λ p. after (bytes ")") p.1 >>= λ z. some (place (step q.0 p.0), z))) ≡ false
    go none = refl
    go (some q) = object-of q.0 (after (bytes " ") q.1)

meet-said : (s : List ℕ) → is_silent (whole (meet_rest s)) ≡ false
unfolding meet_rest
meet-said s = go (below 128 s)
  where
    last-of : (i : ℕ) (r : Read (List ℕ)) → is_silent (whole (r >>= λ p. some (place (meet i p.0), p.1))) ≡ false
    last-of i none = refl
    last-of i (some (os, [])) = refl
    last-of i (some (os, b ∷ u)) = refl

    go : (r : Read ℕ) → is_silent (whole (r >>= λ q. rest (below 255) 3 q.1 >>= λ p. some (place (meet q.0 p.0), p.1))) ≡ false
    go none = refl
    go (some q) = last-of q.0 (rest (below 255) 3 q.1)

states-said : (s : List ℕ) → number_said (whole (states_rest s)) ≡ None
unfolding states_rest
states-said s = go (number s)
  where
    last-of : (o : Option (List ℕ)) → number_said (whole (o >>= λ u. some (nothing, u))) ≡ None
    last-of none = refl
    last-of (some []) = refl
    last-of (some (b ∷ u)) = refl

    go : (r : Read ℕ) → number_said (whole (r >>= λ q. after (bytes ")") q.1 >>= λ u. some (nothing, u))) ≡ None
    go none = refl
    go (some q) = last-of (after (bytes ")") q.1)

atomic-said : (s : List ℕ) → number_said (whole (atomic_rest s)) ≡ None
unfolding atomic_rest
atomic-said s = go (rest letters (length s) s)
  where
    go : (r : Read (List Word)) → number_said (whole (r >>= λ p. some (nothing, p.1))) ≡ None
    go none = refl
    go (some (ws, [])) = refl
    go (some (ws, b ∷ u)) = refl

-- BY ITS FIRST WORD
front : (w s : List ℕ) {t : List ℕ} → after w s ≡ some t → s ≡ w ++ t
front [] s {t} e = ap (λ (o : Option (List ℕ)). get_or o s) e
front (b ∷ w) [] e = absurd (none-ne-some _ e)
front (b ∷ w) (c ∷ s) {t} e = ⊎_elim
    (λ (q : eqb b c ≡ true). let z = eqb-true b c q in let y = front w s (rw q at e) in cc)
    (λ (q : eqb b c ≡ false). absurd (none-ne-some _ (rw q at e))) (cases_Bool (eqb b c))

-- a line that says nothing
pub silent-same : {r : Bool} {o : Option Said} → o ≡ cond r (some nothing) none → r ≡ is_silent o
silent-same {r = true} e = rw e
silent-same {r = false} e = rw e

module _ (text : List ℕ) where
  pub line-states : {t : List ℕ} → after (bytes "(states ") text ≡ some t → said_by text ≡ whole (states_rest t)
  unfolding said_by line
  line-states e = rw e

  module _ (n : after (bytes "(states ") text ≡ none) where
    pub line-atomic : {t : List ℕ} → after (bytes "(atomic") text ≡ some t → said_by text ≡ whole (atomic_rest t)
    unfolding said_by line
    line-atomic e = rw (n, e)

    pub line-loud : after (bytes "(atomic") text ≡ none → false ≡ is_silent (said_by text)
    unfolding said_by line
    line-loud a = rw (n, a) (sym (go (after (bytes "(step ") text) (after (bytes "(meet ") text)))
      where
        go : (o p : Option (List ℕ)) → is_silent (whole (whether o step_rest (p >>= meet_rest))) ≡ false
        go none none = refl
        go none (some t) = meet-said t
        go (some t) p = step-said t

-- the tests of the two first words
module _ (text : List ℕ) where
  pub silent-states : {P : Bor (List ℕ) → Type 0} (o : std.Option (Bor (List ℕ))) {r : Bool} → MatchOption o (after (bytes "(states ") text ≡ none) (λ x. after (bytes "(states ") text ≡ some x.now) → MatchOption o (r ≡ false) P
      → ((x : Bor (List ℕ)) → P x → whole (states_rest x.now) ≡ cond r (some nothing) none) → r ≡ true → r ≡ is_silent (said_by text)
  silent-states None e m f h = clash h m
  silent-states (Some x) e m f h = silent-same (line-states text e ∙ f x m)

  pub silent-atomic : {P Q : Bor (List ℕ) → Type 0} (o p : std.Option (Bor (List ℕ))) {r q : Bool} → MatchOption o (after (bytes "(states ") text ≡ none) (λ x. after (bytes "(states ") text ≡ some x.now) → MatchOption o (r ≡ false) P
      → ((x : Bor (List ℕ)) → P x → whole (states_rest x.now) ≡ cond r (some nothing) none) → r ≡ false
      → MatchOption p (after (bytes "(atomic") text ≡ none) (λ x. after (bytes "(atomic") text ≡ some x.now) → MatchOption p (q ≡ false) Q
      → ((x : Bor (List ℕ)) → Q x → whole (atomic_rest x.now) ≡ cond q (some nothing) none) → q ≡ is_silent (said_by text)
  silent-atomic None None e m f h d n g = n ∙ line-loud text e d
  silent-atomic None (Some y) e m f h d n g = silent-same (line-atomic text e d ∙ g y n)
  silent-atomic (Some x) None e m f h d n g = n ∙ sym h ∙ silent-same (line-states text e ∙ f x m)
  silent-atomic (Some x) (Some y) e m f h d n g = let z = front (bytes "(states ") text e in absurd (none-ne-some _ (rw z at d))

-- a line that says a place
pub line_step : (text : List ℕ) {t : List ℕ} → after (bytes "(step ") text ≡ some t → said_by text ≡ whole (step_rest t)
unfolding said_by line
line_step text e = let z = front (bytes "(step ") text e in rw z

pub line-meet : (text : List ℕ) {t : List ℕ} → after (bytes "(meet ") text ≡ some t → said_by text ≡ whole (meet_rest t)
unfolding said_by line
line-meet text e = let z = front (bytes "(meet ") text e in rw z

pub line-placeless : (text : List ℕ) → after (bytes "(step ") text ≡ none → after (bytes "(meet ") text ≡ none → None ≡ number_said (said_by text)
unfolding said_by line
line-placeless text s m = rw (s, m) (sym (go (after (bytes "(states ") text) (after (bytes "(atomic") text)))
  where
    go : (o p : Option (List ℕ)) → number_said (whole (whether o states_rest (whether p atomic_rest none))) ≡ None
    go none none = refl
    go none (some t) = atomic-said t
    go (some t) p = states-said t

-- THE FIRST LINE
module _ (text : List ℕ) where
  pub verdict-yes : same text (bytes "yes") ≡ true → Some true ≡ clear (verdict text)
  unfolding verdict
  verdict-yes e = rw e

  module _ (y : same text (bytes "yes") ≡ false) where
    pub verdict-reached : same text (bytes "(verdict reached)") ≡ true → Some true ≡ clear (verdict text)
    unfolding verdict
    verdict-reached e = rw (y, e)

    module _ (r : same text (bytes "(verdict reached)") ≡ false) where
      pub verdict-no : same text (bytes "no") ≡ true → Some false ≡ clear (verdict text)
      unfolding verdict
      verdict-no e = rw (y, r, e)

      module _ (n : same text (bytes "no") ≡ false) where
        pub verdict-unreached : same text (bytes "(verdict unreached)") ≡ true → Some false ≡ clear (verdict text)
        unfolding verdict
        verdict-unreached e = rw (y, r, n, e)

        pub verdict-none : same text (bytes "(verdict unreached)") ≡ false → None ≡ clear (verdict text)
        unfolding verdict
        verdict-none e = rw (y, r, n, e)
