-- A place that a line says has a number.
use mathlib.Core.Path.{◌≡◌, subst}
use mathlib.Core.Logic.{⊎_elim}
use mathlib.Core.Bool.{true, false, cond, false≢true}
use mathlib.Core.List.{List, [], ◌∷◌}
use mathlib.Core.Option.{Option, none, some, none-ne-some}
use Prim.Native.Nat.{ℕ, zero, suc, ◌≤◌, ◌<◌}
use native.Mathlib.Omega.{arith}
use lib.Dec.{ltb}
use lib.ListN.{length}
use borrow.Author.Tests.{ltb-true}
use Rattle.std.proofs.lemmas.Bool.{cases_Bool}
use Rattle.semantics.specs.Runs as runs
use Rattle.semantics.specs.Runs.{step, meet}
use Rattle.model.specs.Places.{Objects, Numerable}
use Rattle.grammar.specs.Bytes.{bytes, Word}
use Rattle.grammar.specs.Shapes.{Read, ◌>>=◌, after, whether, rest, whole}
use Rattle.handin_lines.specs.Lines.{number, below, letters, Said, nothing, place, states_rest, atomic_rest, step_rest, meet_rest, line, said_by}

-- a number that is read is below n
abbrev Small : ℕ → Read ℕ → Type 0
Small n none = Unit {0}
Small n (some p) = p.0 < n

below-small : (n : ℕ) (s : List ℕ) → Small n (below n s)
unfolding below
below-small n s = go (number s)
  where
    go : (r : Read ℕ) → Small n (r >>= λ p. cond (ltb p.0 n) (some (p.0, p.1)) none)
    go none = tt
    go (some (k, t)) = ⊎_elim (λ (q : ltb k n ≡ true). rw q (ltb-true k n q)) (λ (q : ltb k n ≡ false). rw q tt) (cases_Bool (ltb k n))

-- at most n objects are read, and each is below 255
abbrev Few : ℕ → Read (List ℕ) → Type 0
Few n none = Unit {0}
Few n (some p) = (length p.0 ≤ n) × Objects p.0

few-more : (n : ℕ) (s : List ℕ) → ((u : List ℕ) → Few n (rest (below 255) n u)) → Few (suc n) (rest (below 255) (suc n) s)
unfolding rest
few-more n s h = closed (after (bytes ")") s)
  where
    last : (x : ℕ) → x < 255 → (r : Read (List ℕ)) → Few n r → Few (suc n) (r >>= λ q. some (x ∷ q.0, q.1))
    last x k none f = tt
    last x k (some q) f = (omega (arith, f.0), (k, f.1))

    item : (r : Read ℕ) → Small 255 r → Few (suc n) (r >>= λ p. rest (below 255) n p.1 >>= λ q. some (p.0 ∷ q.0, q.1))
    item none k = tt
    item (some (x, u)) k = last x k (rest (below 255) n u) (h u)

    spaced : (o : Option (List ℕ)) → Few (suc n) (o >>= λ t. below 255 t >>= λ p. rest (below 255) n p.1 >>= λ q. some (p.0 ∷ q.0, q.1))
    spaced none = tt
    spaced (some t) = item (below 255 t) (below-small 255 t)

    closed : (o : Option (List ℕ)) → Few (suc n) (whether o (λ t. some ([], t)) (after (bytes " ") s >>= λ t. below 255 t >>= λ p. rest (below 255) n p.1 >>= λ q. some (p.0 ∷ q.0, q.1)))
    closed none = spaced (after (bytes " ") s)
    closed (some t) = (omega arith, tt)

few : (n : ℕ) (s : List ℕ) → Few n (rest (below 255) n s)
unfolding rest
few zero s = go (after (bytes ")") s)
  where
    go : (o : Option (List ℕ)) → Few 0 (o >>= λ t. some ([], t))
    go none = tt
    go (some t) = (omega arith, tt)
few (suc n) s = few-more n s (few n)

-- what is read is no place, or one with a number
abbrev Good : Read Said → Type 0
Good none = Unit {0}
Good (some (nothing, t)) = Unit {0}
Good (some (place p, t)) = Numerable p

states-good : (s : List ℕ) → Good (states_rest s)
unfolding states_rest
states-good s = go (number s)
  where
    end : (o : Option (List ℕ)) → Good (o >>= λ u. some (nothing, u))
    end none = tt
    end (some u) = tt

    go : (r : Read ℕ) → Good (r >>= λ p. after (bytes ")") p.1 >>= λ u. some (nothing, u))
    go none = tt
    go (some (n, t)) = end (after (bytes ")") t)

atomic-good : (s : List ℕ) → Good (atomic_rest s)
unfolding atomic_rest
atomic-good s = go (rest letters (length s) s)
  where
    go : (r : Read (List Word)) → Good (r >>= λ p. some (nothing, p.1))
    go none = tt
    go (some p) = tt

step-good : (s : List ℕ) → Good (step_rest s)
unfolding step_rest
step-good s = first (below 8388608 s) (below-small 8388608 s)
  where
    end : (ℓ o : ℕ) → ℓ < 8388608 → o < 255 → (r : Option (List ℕ)) → Good (r >>= λ z. some (place (step ℓ o), z))
    end ℓ o h k none = tt
    end ℓ o h k (some z) = (h, k)

    object : (ℓ : ℕ) → ℓ < 8388608 → (r : Read ℕ) → Small 255 r → Good (r >>= λ q. after (bytes ")") q.1 >>= λ z. some (place (step ℓ q.0), z))
    object ℓ h none k = tt
    object ℓ h (some (o, v)) k = end ℓ o h k (after (bytes ")") v)

    space : (ℓ : ℕ) → ℓ < 8388608 → (r : Option (List ℕ)) → Good (r >>= λ u. below 255 u >>= λ q. after (bytes ")") q.1 >>= λ z. some (place (step ℓ q.0), z))
    space ℓ h none = tt
    space ℓ h (some u) = object ℓ h (below 255 u) (below-small 255 u)

    first : (r : Read ℕ) → Small 8388608 r → Good (r >>= λ p. after (bytes " ") p.1 >>= λ u. below 255 u >>= λ q. after (bytes ")") q.1 >>= λ z. some (place (step p.0 q.0), z))
    first none h = tt
    first (some (ℓ, t)) h = space ℓ h (after (bytes " ") t)

meet-good : (s : List ℕ) → Good (meet_rest s)
unfolding meet_rest
meet-good s = first (below 128 s) (below-small 128 s)
  where
    objects : (i : ℕ) → i < 128 → (r : Read (List ℕ)) → Few 3 r → Good (r >>= λ q. some (place (meet i q.0), q.1))
    objects i h none k = tt
    objects i h (some q) k = (h, k.0, k.1)

    first : (r : Read ℕ) → Small 128 r → Good (r >>= λ p. rest (below 255) 3 p.1 >>= λ q. some (place (meet p.0 q.0), q.1))
    first none h = tt
    first (some (i, t)) h = objects i h (rest (below 255) 3 t) (few 3 t)

by_word : (o : Option (List ℕ)) (f : List ℕ → Read Said) (d : Read Said) → ((t : List ℕ) → Good (f t)) → Good d → Good (whether o f d)
by_word none f d h k = k
by_word (some t) f d h k = h t

line-good : (s : List ℕ) → Good (line s)
unfolding line
line-good s =
    by_word (after (bytes "(states ") s) states_rest _ states-good
    (by_word (after (bytes "(atomic") s) atomic_rest _ atomic-good
    (by_word (after (bytes "(step ") s) step_rest _ step-good
    (go (after (bytes "(meet ") s))))
  where
    go : (o : Option (List ℕ)) → Good (o >>= meet_rest)
    go none = tt
    go (some t) = meet-good t

whole-good : (r : Read Said) → Good r → (p : runs.Place) → whole r ≡ some (place p) → Numerable p
whole-good none g p e = absurd (none-ne-some _ e)
whole-good (some (nothing, [])) g p e = absurd (false≢true cc)
whole-good (some (place q, [])) g p e = let z : q ≡ p = cc in subst Numerable z g
whole-good (some (x, b ∷ s)) g p e = absurd (none-ne-some _ e)

-- A PLACE THAT IS READ has a number
pub numerable : (s : List ℕ) (p : runs.Place) → said_by s ≡ some (place p) → Numerable p
unfolding said_by
numerable s p e = whole-good (line s) (line-good s) p e
