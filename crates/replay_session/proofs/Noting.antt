-- THE TABLE of those who stood by: a run settles it, and at each place it has the number that one place put to the state there is answered.
use mathlib.Core.Path.{◌≡◌, sym, ap, ap₂, ◌∙◌, subst}
use mathlib.Core.Logic.{inl, inr, ⊎_elim}
use mathlib.Core.Bool.{true, false≢true}
use mathlib.Core.List.{List, [], ◌∷◌, map}
use mathlib.Core.Option.{some, some-injective}
use Prim.Native.Nat.{ℕ, zero, suc, ◌≤◌, ◌<◌}
use native.Mathlib.Omega.{arith}
use native.Mathlib.Nat.{not-suc-le-zero}
use lib.Dec.{eqb}
use lib.ListN.{length, take, drop, get_or}
use borrow.Author.Tests.{eqb-true}
use Rattle.std.proofs.lemmas.Bool.{or_cases}
use Rattle.limits.specs.Limits as limit
use Rattle.semantics.specs.Models.{elem, Line, rule, new, next, other, Program, line, Question, vars}
use Rattle.semantics.specs.Facts.{Database}
use Rattle.semantics.specs.Runs.{Place, step, meet, Session, Allowed, after}
use Rattle.semantics.specs.Building.{Leads}
use Rattle.semantics.specs.StandingBy.{line_names, EnabledBy}
use Rattle.semantics.proofs.Tools.{or_right, elem-here, firsts-among}
use Rattle.semantics.proofs.StandingBy.{one-stood-by}
use Rattle.model.specs.Places.{place_of}
use Rattle.replay_session.specs.Replays.{Decodes}
use Rattle.replay_session.specs.Notes.{standing, Stands, Notes}

-- a place has one number
pub one-standing : (P : Program) (s : Session) (p : Place) (k j : ℕ) → Stands P s p k → Stands P s p j → k ≡ j
one-standing P s (step ℓ o) k j g h = g.2 ∙ ap standing (one-stood-by P s.db o (line P ℓ) g.0 h.0 g.1 h.1) ∙ sym h.2
one-standing P s (meet i os) k j g h = g ∙ sym h

-- AND IT IS SMALL: those who stood by are objects of the database
objects-small : (k : ℕ) (σ : ℕ → ℕ) (xs : List ℕ) → k ≤ limit.objects → ((x : ℕ) → elem x xs ≡ true → σ x < k) → (i : ℕ) → get_or (map σ xs) i limit.none < 256
objects-small k σ [] few h i = omega arith
objects-small k σ (x ∷ xs) few h zero = let l = h x (elem-here x xs) in omega arith
objects-small k σ (x ∷ xs) few h (suc i) = objects-small k σ xs few (λ y e. h y (or_right (eqb y x) (elem y xs) e)) i

objects-there : (P : Program) (db : Database) (o : ℕ) (L : Line) (σ : ℕ → ℕ) → EnabledBy P db o L σ → (x : ℕ) → elem x (line_names L) ≡ true → σ x < length db
objects-there P db o (rule r xs b) σ g x e = absurd g
objects-there P db o (new t b) σ g x e = g.1.0 x (firsts-among x [] (vars b) e)
objects-there P db o (next y plus minus b) σ g x e = ⊎_elim
    (λ q. rw (eqb-true x y q) (omega (arith, g.0, g.1)))
    (λ q. g.2.0 x q)
    (or_cases (eqb x y) (elem x (vars b)) (firsts-among x [] (y ∷ vars b) e))
objects-there P db o other σ g x e = absurd g

pub standing-small : (P : Program) (s : Session) (p : Place) (k : ℕ) → length s.db ≤ limit.objects → Stands P s p k → k < 16777216
standing-small P s (step ℓ o) k few (os, by, e) = omega (arith, e, small 0, small 1, small 2)
  where
    small : (i : ℕ) → get_or os i limit.none < 256
    small i = rw by.objects (objects-small (length s.db) by.choice (line_names (line P ℓ)) few (objects-there P s.db o (line P ℓ) by.choice by.first.good) i)
standing-small P s (meet i os) k few e = omega arith

module _ (P : Program) (Q : Question) where
  -- THE TABLE IS UNIQUE
  pub one-notes : (s : Session) (ns t t' u : List ℕ) → Notes P Q s ns t t' → Notes P Q s ns t u → t' ≡ u
  one-notes s [] t t' u g h = g ∙ sym h
  one-notes s (n ∷ ns) t t' u (inl (p, e, l, (k, v, g, d, m))) (inl (q, f, a, (j, w, h, o, r))) =
      let pq : p ≡ q = some-injective p q (sym e ∙ f) in
      d ∙ ap₂ {C = List ℕ} (λ (x : ℕ) (y : List ℕ). x ∷ y) (one-standing P s q k j (subst (λ (x : Place). Stands P s x k) pq g) h)
      (one-notes (after P Q s q) ns (drop 1 t) v w (subst (λ (x : Place). Notes P Q (after P Q s x) ns (drop 1 t) v) pq m) r) ∙ sym o
  one-notes s (n ∷ ns) t t' u (inl (p, e, l, g)) (inr (never, h)) = absurd (never (p, e, l))
  one-notes s (n ∷ ns) t t' u (inr (never, g)) (inl (q, f, a, h)) = absurd (never (q, f, a))
  one-notes s (n ∷ ns) t t' u (inr (never, g)) (inr (nor, h)) = g ∙ sym h

  -- AT EACH PLACE the table has the number of that place, put to where the places before it lead
  pub noted-at : (s r : Session) (ns t t' : List ℕ) (i : ℕ) (ps : List Place) (p : Place) (k : ℕ) → Notes P Q s ns t t' → i < length ns → Decodes (take i ns) ps → Leads P Q s ps r
      → place_of (get_or ns i 0) ≡ some p → Allowed P Q r p → Stands P r p k → get_or t' i 0 ≡ k
  noted-at s r [] t t' i ps p k m l d h e a g = absurd (not-suc-le-zero l)
  noted-at s r (n ∷ ns) t t' zero (q ∷ ps) p k m l d h e a g = absurd (false≢true cc)
  noted-at s r (n ∷ ns) t t' zero [] p k (inl (q, f, b, (j, u, o, w, m))) l d h e a g =
      let qp : q ≡ p = some-injective q p (sym f ∙ e) in
      ap (λ (x : List ℕ). get_or x 0 0) w ∙ one-standing P s p j k (subst (λ (x : Place). Stands P s x j) qp o) (subst (λ (x : Session). Stands P x p k) (sym h) g)
  noted-at s r (n ∷ ns) t t' zero [] p k (inr (never, m)) l d h e a g = absurd (never (p, e, subst (λ (x : Session). Allowed P Q x p) (sym h) a))
  noted-at s r (n ∷ ns) t t' (suc i) [] p k m l d h e a g = absurd (false≢true cc)
  noted-at s r (n ∷ ns) t t' (suc i) (x ∷ ps) p k (inl (q, f, b, (j, u, o, w, m))) l d h e a g =
      let qx : q ≡ x = some-injective q x (sym f ∙ (cc)) in
      ap (λ (y : List ℕ). get_or y (suc i) 0) w ∙ noted-at (after P Q s x) r ns (drop 1 t) u i ps p k (subst (λ (y : Place). Notes P Q (after P Q s y) ns (drop 1 t) u) qx m) (omega arith) (cc) h.1 e a g
  noted-at s r (n ∷ ns) t t' (suc i) (x ∷ ps) p k (inr (never, m)) l d h e a g = absurd (never (x, (cc), h.0))
