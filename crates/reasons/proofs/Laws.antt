-- A place for which there is a reason is not allowed.
use mathlib.Core.Path.{◌≡◌, refl, sym, subst}
use mathlib.Core.Logic.{◌≢◌, ⊎_elim}
use mathlib.Core.Bool.{true, false, false≢true}
use mathlib.Core.List.{List, [], ◌∷◌}
use Prim.Native.Nat.{ℕ, ◌≤◌}
use native.Mathlib.Omega.{arith}
use borrow.Author.Tests.{eqb-true, eq-eqb, ne_eqb}
use lib.Dec.{eqb}
use lib.ListN.{length}
use Rattle.std.proofs.lemmas.Bool.{cases_Bool, or_cases}
use Rattle.semantics.specs.Models.{elem, Line, rule, new, next, other, Program, line, Question, vars, firsts, names, Distinct}
use Rattle.semantics.specs.Facts.{Database}
use Rattle.semantics.specs.Steps.{Enabled}
use Rattle.semantics.specs.Runs.{Place, step, meet, pick, named, Session, stage, Allowed}
use Rattle.semantics.proofs.Tools.{clash, or_right, elem-here, firsts-among}
use Rattle.reasons_bodies.proofs.Orders.{blame-refutes}
use Rattle.reasons.specs.declared.Reason.{Reason}
use Rattle.reasons.specs.declared.Reason.TheVariants.{Ends, Done, NoLine, NotNext, NoObject, OtherStage, Variables, Carried, Literal}
use Rattle.reasons.specs.Reasons.{StepNoLine, StepNotNext, StepNoObject, StepLiteral, StepFails, MeetingFails, Fails, Because}

-- A STEP
module _ (P : Program) (db : Database) (o : ℕ) where
  no_line : (L : Line) → StepNoLine P db o L → Enabled P db o L → ⊥
  no_line (rule r xs b) h e = e
  no_line (new t b) h e = h
  no_line (next x plus minus b) h e = h
  no_line other h e = e

  not-next : (L : Line) → StepNotNext P db o L → Enabled P db o L → ⊥
  not-next (rule r xs b) h e = e
  not-next (new t b) h e = h e.0
  not-next (next x plus minus b) h e = h
  not-next other h e = e

  no-object : (L : Line) → StepNoObject P db o L → Enabled P db o L → ⊥
  no-object (rule r xs b) h e = e
  no-object (new t b) h e = h
  no-object (next x plus minus b) h e = let l = e.0 in omega arith
  no-object other h e = e

  a-literal : (k : ℕ) (L : Line) → StepLiteral P db o k L → Enabled P db o L → ⊥
  a-literal k (rule r xs b) h e = e
  a-literal k (new t b) h e = blame-refutes P db b (λ (σ : ℕ → ℕ). Unit {0}) k h.1 e.1.0 tt e.1.1
  a-literal k (next x plus minus b) h e = blame-refutes P db b (λ (σ : ℕ → ℕ). σ x ≡ o) k h.1 e.1.0 e.1.1 e.1.2
  a-literal k other h e = e

  step-not : (L : Line) (r : Reason) → StepFails P db o L r → Enabled P db o L → ⊥
  step-not L Ends h e = h
  step-not L Done h e = h
  step-not L NoLine h e = no_line L h e
  step-not L NotNext h e = not-next L h e
  step-not L NoObject h e = no-object L h e
  step-not L OtherStage h e = h
  step-not L Variables h e = h
  step-not L Carried h e = h
  step-not L (Literal k) h e = a-literal k L h e

firsts-not : (x : ℕ) (seen xs : List ℕ) → elem x seen ≡ true → elem x (firsts seen xs) ≡ false
unfolding firsts
firsts-not x seen [] e = refl
firsts-not x seen (y ∷ ys) e = ⊎_elim
    (λ (q : elem y seen ≡ true). rw q (firsts-not x seen ys e))
    (λ (q : elem y seen ≡ false).
    rw (q, ne_eqb x y (λ z. clash e (subst (λ (n : ℕ). elem n seen ≡ false) (sym z) q))) (firsts-not x (y ∷ seen) ys (or_right (eqb x y) (elem x seen) e)))
    (cases_Bool (elem y seen))

firsts-distinct : (seen xs : List ℕ) → Distinct (firsts seen xs)
unfolding firsts
firsts-distinct seen [] = tt
firsts-distinct seen (y ∷ ys) = ⊎_elim
    (λ (q : elem y seen ≡ true). rw q (firsts-distinct seen ys))
    (λ (q : elem y seen ≡ false). rw q (firsts-not y (y ∷ seen) ys (elem-here y seen), firsts-distinct (y ∷ seen) ys))
    (cases_Bool (elem y seen))

-- A MEETING: each object is named for some variable
named-for : (xs os : List ℕ) → length os ≡ length xs → Distinct xs → (o : ℕ) → elem o os ≡ true → (x : ℕ) × (elem x xs ≡ true) × (pick xs os 0 x ≡ o)
named-for xs [] l d o e = absurd (false≢true e)
named-for [] (p ∷ os) l d o e = absurd (omega arith)
named-for (y ∷ ys) (p ∷ os) l d o e = ⊎_elim
    (λ (q : eqb o p ≡ true). (y, elem-here y ys, rw (eq-eqb y y refl) (sym (eqb-true o p q))))
    (λ (q : elem o os ≡ true).
    let w = named-for ys os (omega arith) d.1 o q in
    let apart : w.0 ≢ y = λ z. clash w.1 (rw z d.0) in
    (w.0, or_right (eqb w.0 y) (elem w.0 ys) w.1, rw (ne_eqb w.0 y apart) w.2))
    (or_cases (eqb o p) (elem o os) e)

module _ (P : Program) (Q : Question) (s : Session) where
  meeting-not : (i : ℕ) (os : List ℕ) (r : Reason) → MeetingFails P Q s i os r → Allowed P Q s (meet i os) → ⊥
  meeting-not i os Ends h a = h
  meeting-not i os Done h a = h
  meeting-not i os NoLine h a = h
  meeting-not i os NotNext h a = h
  meeting-not i os NoObject h a =
      let w = named-for (names (stage P Q s)) os a.2 (firsts-distinct [] (vars (stage P Q s))) h.1.0 h.1.1 in
      let l = a.3.0 w.0 (firsts-among w.0 [] (vars (stage P Q s)) w.1) in
      let e = w.2 in let g = h.1.2 in omega arith
  meeting-not i os OtherStage h a = h a.1
  meeting-not i os Variables h a = h.1 a.2
  meeting-not i os Carried h a = h.1.4 (a.4 h.1.0 h.1.1 h.1.2 h.1.3)
  meeting-not i os (Literal k) h a = blame-refutes P s.db (stage P Q s) (λ (σ : ℕ → ℕ). (x : ℕ) → elem x (vars (stage P Q s)) ≡ true → σ x ≡ named (stage P Q s) os x) k h.1 (named (stage P Q s) os) (λ x e. refl) a.3

  fails-not : (p : Place) (r : Reason) → Fails P Q s p r → Allowed P Q s p → ⊥
  fails-not (step ℓ o) r h a = step-not P s.db o (line P ℓ) r h a.1
  fails-not (meet i os) r h a = meeting-not i os r h a

  over : (p : Place) → length Q ≤ s.met → Allowed P Q s p → ⊥
  over (step ℓ o) h a = let l = a.0 in omega arith
  over (meet i os) h a = let l = a.0 in omega arith

  -- THE REASON IS ONE
  pub because-not : (p : Place) (r : Reason) → Because P Q s p r → Allowed P Q s p → ⊥
  because-not p Ends h a = h
  because-not p Done h a = over p h a
  because-not p NoLine h a = fails-not p NoLine h.1 a
  because-not p NotNext h a = fails-not p NotNext h.1 a
  because-not p NoObject h a = fails-not p NoObject h.1 a
  because-not p OtherStage h a = fails-not p OtherStage h.1 a
  because-not p Variables h a = fails-not p Variables h.1 a
  because-not p Carried h a = fails-not p Carried h.1 a
  because-not p (Literal k) h a = fails-not p (Literal k) h.1 a
