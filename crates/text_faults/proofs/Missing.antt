-- Row 3 is the answer where a line has no shape, and only there.
use mathlib.Core.Path.{◌≡◌, ◌∙◌, sym, ap}
use mathlib.Core.Bool.{Bool, true, false, not, cond}
use mathlib.Core.List.{List, [], ◌∷◌}
use mathlib.Core.Logic.{⊎_elim}
use Prim.Native.Nat.{ℕ}
use native.Mathlib.Omega.{arith}
use lib.Dec.{eqb}
use borrow.Author.Tests.{eqb-true, eqb-false}
use Rattle.std.proofs.lemmas.Bool.{cases_Bool}
use Rattle.std.specs.Prelude.{Result, Err}
use Rattle.std.proofs.Math.Option as math
use Rattle.grammar.specs.Bytes.{Word}
use Rattle.grammar.specs.Declarations.{is_state, arity_of, Declared, lookup}
use Rattle.grammar.specs.Forms.{Literal, plain, negated, Form, state_form, rel_form, rule_form, new_form, next_form, ask_form}
use Rattle.grammar.specs.Rows.{lower, row, again, name_fault, list_fault, head_fault, plain_fault, negated_fault, literal_fault, body_fault, stages_fault, fault}
use Rattle.grammar.specs.Shapes.{Read, whole}
use Rattle.grammar.proofs.Lower.{lower-first, lower-second, lower-both}
use Rattle.rows.specs.declared.Row.{Row}
use Rattle.rows.specs.declared.Row.TheVariants.{Shape}
use Rattle.text_faults.specs.Faults.{fault_in, Judged, unshaped, shaped}

-- a number that is not 3
abbrev Other : ℕ → Type 0
Other n = n ≡ 3 → ⊥

lower-other : (a b : ℕ) → Other a → Other b → Other (lower a b)
lower-other a b p q e = ⊎_elim
    (λ (z : eqb a 0 ≡ true). q (sym (lower-first a b (eqb-true a 0 z)) ∙ e))
    (λ (z : eqb a 0 ≡ false). ⊎_elim
    (λ (y : eqb b 0 ≡ true). p (sym (lower-second a b (eqb-true b 0 y)) ∙ e))
    (λ (y : eqb b 0 ≡ false). let m = lower-both a b (eqb-false a 0 z) (eqb-false b 0 y) in ⊎_elim
    (λ (x : eqb a 3 ≡ true). p (eqb-true a 3 x))
    (λ (x : eqb a 3 ≡ false). ⊎_elim (λ (w : eqb b 3 ≡ true). q (eqb-true b 3 w)) (λ (w : eqb b 3 ≡ false). let s = eqb-false a 3 x in let t = eqb-false b 3 w in omega arith) (cases_Bool (eqb b 3)))
    (cases_Bool (eqb a 3)))
    (cases_Bool (eqb b 0)))
    (cases_Bool (eqb a 0))

row-other : (n : ℕ) (b : Bool) → Other n → Other (row n b)
row-other n true h e = h e
row-other n false h e = omega arith

name-other : (c : math.Option ℕ) → Other (name_fault c)
name-other math.none e = omega arith
name-other (math.some c) e = row-other 6 (not (is_state c)) (λ d. omega arith) e

head-other : (c : math.Option ℕ) (n : ℕ) → Other (head_fault c n)
head-other math.none n e = omega arith
head-other (math.some c) n e = go (is_state c) e
  where
    go : (b : Bool) → Other (cond b 6 (row 7 (not (eqb n (arity_of c)))))
    go true e = omega arith
    go false e = row-other 7 (not (eqb n (arity_of c))) (λ d. omega arith) e

plain-other : (c : math.Option ℕ) (n : ℕ) → Other (plain_fault c n)
plain-other math.none n e = omega arith
plain-other (math.some c) n e = row-other 7 (not (eqb n (arity_of c))) (λ d. omega arith) e

negated-other : (c : math.Option ℕ) (n : ℕ) → Other (negated_fault c n)
negated-other math.none n e = omega arith
negated-other (math.some c) n e = go (eqb n (arity_of c)) e
  where
    go : (b : Bool) → Other (cond b (row 8 (not (is_state c))) 7)
    go true e = row-other 8 (not (is_state c)) (λ d. omega arith) e
    go false e = omega arith

module _ (D : Declared) where
  list-other : (ws : List Word) → Other (list_fault D ws)
  unfolding list_fault
  list-other [] e = omega arith
  list-other (w ∷ ws) e = lower-other _ _ (name-other (lookup w D)) (list-other ws) e

  literal-other : (l : Literal) → Other (literal_fault D l)
  literal-other (plain a) = plain-other (lookup a.name D) _
  literal-other (negated a) = negated-other (lookup a.name D) _

  body-other : (b : List Literal) → Other (body_fault D b)
  unfolding body_fault
  body-other [] e = omega arith
  body-other (l ∷ b) e = lower-other _ _ (literal-other l) (body-other b) e

  row-9 : (b : Bool) → Other (row 9 b)
  row-9 b = row-other 9 b (λ e. omega arith)

  row-4 : (b : Bool) → Other (row 4 b)
  row-4 b = row-other 4 b (λ e. omega arith)

  stages-other : (qs : List (List Literal)) → Other (stages_fault D qs)
  unfolding stages_fault
  stages-other [] e = omega arith
  stages-other (q ∷ qs) e = lower-other _ _ (lower-other _ _ (body-other q) (row-9 _)) (stages-other qs) e

  fault-other : (clauses : ℕ) (form : Form) → Other (fault D clauses form)
  unfolding fault
  fault-other n (state_form w) = lower-other _ _ (row-4 _) (row-other 5 (again (lookup w D)) (λ e. omega arith))
  fault-other n (rel_form w k) = lower-other _ _ (row-4 _) (row-other 5 (again (lookup w D)) (λ e. omega arith))
  fault-other n (rule_form h b) = lower-other _ _ (row-4 _) (lower-other _ _ (head-other (lookup h.name D) _) (lower-other _ _ (body-other b) (lower-other _ _ (row-9 _) (row-9 _))))
  fault-other n (new_form l b) = lower-other _ _ (row-4 _) (lower-other _ _ (list-other l) (lower-other _ _ (body-other b) (row-9 _)))
  fault-other n (next_form x p m b) = lower-other _ _ (row-4 _) (lower-other _ _ (list-other p) (lower-other _ _ (list-other m) (lower-other _ _ (body-other b) (row-9 _))))
  fault-other n (ask_form qs) = lower-other _ _ (stages-other qs) (row-other 11 _ (λ e. omega arith))

  -- NO SHAPE: an answer by the lines' numbers that is row 3 says that the line has none
  pub missing : {A : Type 0} {read : Read Form} {Number : Form → ℕ → Type 0} {Good : Form → A → Type 0} {r : Result A Row}
      → ((form : Form) (n : ℕ) → Number form n → (clauses : ℕ) × (n ≡ fault D clauses form))
      → Judged read Number Good r → r ≡ Err Shape → whole read ≡ math.none
  missing says (unshaped w q) e = w
  missing says (shaped form w q g) e = let s = says form _ q in absurd (fault-other s.0 form (sym s.1 ∙ ap fault_in e))
