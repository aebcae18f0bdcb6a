-- STRIKING LINES OF A SMALL MODEL
use mathlib.Core.Path.{◌≡◌, refl, sym, ◌∙◌, subst}
use mathlib.Core.Logic.{inl, ⊎_elim, ◌≢◌}
use mathlib.Core.Bool.{true, false, false≢true}
use mathlib.Core.List.{List, [], ◌∷◌, ◌++◌}
use Prim.Native.Nat.{ℕ, ◌<◌}
use native.Mathlib.Nat.{not-suc-le-zero}
use native.Mathlib.Omega.{arith}
use lib.Dec.{eqb}
use lib.ListN.{length, length-append, get_or-append}
use lib.Seq.{get_or-append_seam}
use Rattle.std.proofs.lemmas.Bool.{cases_Bool}
use Rattle.semantics.specs.Labels.{has, union, difference, relabel}
use Rattle.semantics.specs.Models.{elem, Program}
use Rattle.semantics.specs.Facts.{Database, state, Meets}
use Rattle.semantics.specs.Steps.{Pair, Steps}
use Rattle.semantics.specs.Questions.{Reached}
use Rattle.semantics.specs.Cases.{never, some_a, turning}
use Rattle.striking.specs.Striking.{strike, Choice, Before, nothing as none-counted, reached as one-reached, unreached as one-unreached, faulty, some_b, Struck}
use Rattle.semantics.proofs.Tools.{same?, elem-here, each-cons}
use Rattle.striking.proofs.Striking.{strike-none, still-unreached}
use Rattle.striking.proofs.Choices.{no-cure, empty-cure}
use Rattle.semantics.proofs.Cases.{uncreated-true}

-- the one variable stands for the one object
one : (b : ℕ) → b ≡ 1 → (x : ℕ) → elem x (0 ∷ []) ≡ true → 0 < b
one b e x t = omega (arith, e)

nothing : (P : Program) (db : Database) → (σ : ℕ → ℕ) × Meets P db σ []
nothing P db = ((λ x. 0), ((λ x e. absurd (false≢true e)), tt))

-- REACHED with nothing struck
reached : Reached turning some_b
unfolding has union difference relabel
reached = ((λ x. 0), ((3, 0) ∷ (4, 0) ∷ [], 2 ∷ [], ((refl, nothing turning []), ((omega arith, ((λ x. 0), refl, (one 1 refl, (refl, tt)))), refl)), (one 1 refl, (refl, tt)), tt))

-- without line 3 there is never an object
none_made : (ts : List Pair) (db : Database) → Steps (strike turning (3 ∷ [])) [] ts db → db ≡ []
none_made [] db h = sym h
none_made (t ∷ ts) db h = absurd (⊎_elim
    (λ (q : eqb t.0 4 ≡ true). not-suc-le-zero (rw q at h.0).0)
    (λ (q : eqb t.0 4 ≡ false). rw q at h.0) (cases_Bool (eqb t.0 4)))

without-3 : Reached (strike turning (3 ∷ [])) some_b → ⊥
without-3 r = let m = r.1.3 in let e = none_made r.1.0 r.1.1 r.1.2 in not-suc-le-zero (subst (λ (d : Database). r.0 0 < length d) e (m.0 0 (elem-here 0 [])))

-- without line 4 all objects have A alone
abbrev AllA : Database → Type 0
AllA db = (o : ℕ) → o < length db → state db o ≡ 1

more-A : (db : Database) → AllA db → AllA (db ++ (1 ∷ []))
more-A db h o l = ⊎_elim (λ (e : o ≡ length db). rw (e, get_or-append_seam db 1 [] 0))
    (λ (e : o ≢ length db). let k : o < length db = omega (arith, length-append db (1 ∷ [])) in get_or-append db (1 ∷ []) 0 o k ∙ h o k) (same? o (length db))

stays-A : (ts : List Pair) (db db' : Database) → AllA db → Steps (strike turning (4 ∷ [])) db ts db' → AllA db'
stays-A [] db db' a h = subst (λ (d : Database). AllA d) h a
stays-A (t ∷ ts) db db' a h = ⊎_elim
    (λ (q : eqb t.0 3 ≡ true). stays-A ts (db ++ (1 ∷ [])) db' (more-A db a) (rw q at h).1)
    (λ (q : eqb t.0 3 ≡ false). absurd (rw q at h.0)) (cases_Bool (eqb t.0 3))

without-4 : Reached (strike turning (4 ∷ [])) some_b → ⊥
unfolding has
without-4 r =
    let m = r.1.3 in
    let s : state r.1.1 (r.0 0) ≡ 1 = stays-A r.1.0 [] r.1.1 (λ o l. absurd (not-suc-le-zero l)) r.1.2 (r.0 0) (m.0 0 (elem-here 0 [])) in
    false≢true (subst (λ (k : ℕ). has k 1 ≡ true) s m.1.0)

-- line 3 comes first, and nothing struck is reached
first-3 : (D : List ℕ) → Choice (4 ∷ 3 ∷ []) D → Before D (3 ∷ []) → Reached (strike turning D) some_b
first-3 [] c b = absurd b
first-3 (x ∷ D) c b = absurd (each-cons (λ (y : ℕ). (y < 3) → ⊥) 4 (3 ∷ []) (λ l. omega (arith, l)) (each-cons (λ (y : ℕ). (y < 3) → ⊥) 3 [] (λ l. omega (arith, l)) (λ y u. absurd (false≢true u)))
    x (c.1 x (elem-here x D)) (⊎_elim (λ (l : x < 3). l) (λ (q : (x ≡ 3) × Before D []). absurd (before-nil D q.1)) b))
  where
    before-nil : (D : List ℕ) → Before D [] → ⊥
    before-nil [] b = b
    before-nil (x ∷ D) b = b

fewest-3 : (D : List ℕ) → length D < 1 → Reached (strike turning D) some_b
fewest-3 [] l = subst (λ (R : Program). Reached R some_b) (sym (strike-none turning)) reached
fewest-3 (x ∷ D) l = absurd (omega (arith, l))

reached-A : Reached (strike turning (4 ∷ [])) some_a
unfolding has
reached-A = ((λ x. 0), ((3, 0) ∷ [], 1 ∷ [], ((refl, nothing (strike turning (4 ∷ [])) []), refl), (one 1 refl, (refl, tt)), tt))

pub struck : Struck
unfolding faulty
struck = record {
  cure = record {
    choice = (((λ y e. absurd (false≢true e)), tt), each-cons (λ (y : ℕ). elem y (4 ∷ 3 ∷ []) ≡ true) 3 [] refl (λ y u. absurd (false≢true u)));
    unreached = without-3;
    fewest = λ D c l. fewest-3 D l;
    first = λ D c e b. first-3 D c b;
  };
  tally = record {
    counts = one-unreached (still-unreached turning some_b (3 ∷ []) (3 ∷ 4 ∷ []) (each-cons (λ (y : ℕ). elem y (3 ∷ 4 ∷ []) ≡ true) 3 [] refl (λ y u. absurd (false≢true u))) without-3)
        (one-unreached without-3 (one-unreached without-4 (one-reached (fewest-3 [] (omega arith)) none-counted)));
    hundredths = refl;
    below = omega arith;
  };
  all = refl;
  no-choice = (no-cure turning some_a (4 ∷ [])).1 reached-A;
  already = (empty-cure never some_a (3 ∷ [])).1 uncreated-true.0;
  order = inl (omega arith);
  ten = refl;
  empty = refl;
  over = refl;
  again = refl;
  ruled = refl;
  nowhere = refl;
  past = refl;
}
