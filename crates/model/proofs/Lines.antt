-- What stands on a line of an accepted model, and at a place of its question.
use mathlib.Core.Path.{◌≡◌, refl, sym, ap, ◌∙◌, subst}
use mathlib.Core.Logic.{◌⊎◌, inl, inr, ⊎_elim, ◌≢◌}
use mathlib.Core.List.{List, [], ◌∷◌, map}
use Prim.Native.Nat.{ℕ, zero, suc, ◌≤◌, ◌<◌}
use native.Mathlib.Omega.{arith}
use native.Mathlib.Decide.{dec_le}
use native.Mathlib.Nat.{not-suc-le-zero}
use borrow.Author.Tests.{eq-eqb, ne_eqb}
use lib.ListN.{length, take, get_or, length-take, length-map, get_or-map}
use lib.Seq.{get_or-take, length-take-le}
use Rattle.semantics.specs.Models.{Line, other, Program, line}
use Rattle.semantics.proofs.Tools.{same?}
use Rattle.model.specs.declared.Clause.{Clause}
use Rattle.model.specs.declared.Model.{Model}
use Rattle.model.specs.Records.{clause_line, program_of, stage_of, question_of, clause_at, stage_at}

-- one of the clauses stands on the line, or none
module _ (num : Clause → ℕ) (L : Clause → Line) (d : Clause) (ℓ : ℕ) where
  abbrev Stands : List Clause → Line → Type 0
  Stands cs X = (i : ℕ) × (i < length cs) × (num (get_or cs i d) ≡ ℓ) × (X ≡ L (get_or cs i d))

  abbrev Absent : List Clause → Line → Type 0
  Absent cs X = ((i : ℕ) → i < length cs → num (get_or cs i d) ≢ ℓ) × (X ≡ other)

  abbrev lines : List Clause → Program
  lines cs = map (λ c. (num c, L c)) cs

  before : (c : Clause) (cs : List Clause) (X : Line) → num c ≢ ℓ → Stands cs X ⊎ Absent cs X → Stands (c ∷ cs) X ⊎ Absent (c ∷ cs) X
  before c cs X n (inl (i, h, e, q)) = inl (suc i, omega arith, e, q)
  before c cs X n (inr (none, q)) = inr (all, q)
    where
      all : (i : ℕ) → i < length (c ∷ cs) → num (get_or (c ∷ cs) i d) ≢ ℓ
      all zero h = n
      all (suc i) h = none i (omega arith)

  look : (cs : List Clause) → Stands cs (line (lines cs) ℓ) ⊎ Absent cs (line (lines cs) ℓ)
  look [] = inr ((λ i h. absurd (not-suc-le-zero h)), refl)
  look (c ∷ cs) =
      ⊎_elim
      (λ (e : ℓ ≡ num c). inl (0, omega arith, sym e, rw (eq-eqb _ _ e)))
      (λ (n : ℓ ≢ num c). rw (ne_eqb _ _ n) (before c cs (line (lines cs) ℓ) (λ e. n (sym e)) (look cs)))
      (same? ℓ (num c))

-- a map that rises takes no value twice
rising-same : (f : ℕ → ℕ) (n : ℕ) → ((i j : ℕ) → i < j → j < n → f i < f j) → (i j : ℕ) → i < n → j < n → f i ≡ f j → i ≡ j
rising-same f n rising i j hi hj e = go (dec_le (suc i) j) (dec_le (suc j) i)
  where
    go : Dec (i < j) → Dec (j < i) → i ≡ j
    go (yes l) d = absurd (let q = rising i j l hj in omega arith)
    go (no g) (yes l) = absurd (let q = rising j i l hi in omega arith)
    go (no g) (no l) = omega arith

module _ (m : Model) where
  -- on each line stands one of the clauses, or none
  pub clause-or-other : (ℓ : ℕ) →
      ((i : ℕ) × (i < m.clausecount) × ((clause_at m i).line ≡ ℓ) × (line (program_of m) ℓ ≡ clause_line m.literals (clause_at m i)))
      ⊎ (((i : ℕ) → i < m.clausecount → i < length m.clauses → (clause_at m i).line ≢ ℓ) × (line (program_of m) ℓ ≡ other))
  unfolding program_of
  clause-or-other ℓ =
      ⊎_elim
      (λ w.
      let e = get_or-take m.clausecount m.clauses w.0 _ (below w.0 w.1) in
      inl (w.0, below w.0 w.1, ap (λ (c : Clause). c.line) (sym e) ∙ w.2, w.3 ∙ ap (clause_line m.literals) e))
      (λ w. inr ((λ i h g q. w.0 i (rw length-take (omega arith)) (ap (λ (c : Clause). c.line) (get_or-take m.clausecount m.clauses i _ h) ∙ q)), w.1))
      (look (λ c. c.line) (clause_line m.literals) _ ℓ (take m.clausecount m.clauses))
    where
      below : (i : ℕ) → i < length (take m.clausecount m.clauses) → i < m.clausecount
      below i h = omega (arith, rw length-take at h)

  -- what holds of every clause's line holds of every line
  pub every-line : (R : Line → Type 0) → R other → ((i : ℕ) → i < m.clausecount → R (clause_line m.literals (clause_at m i)))
      → (ℓ : ℕ) → R (line (program_of m) ℓ)
  every-line R o h ℓ = ⊎_elim (λ w. subst R (sym w.3) (h w.0 w.1)) (λ w. subst R (sym w.1) o) (clause-or-other ℓ)

  -- a line of no clause is other
  pub line_other : (ℓ : ℕ) → ((i : ℕ) → i < m.clausecount → (clause_at m i).line ≢ ℓ) → line (program_of m) ℓ ≡ other
  line_other ℓ n = ⊎_elim (λ w. absurd (n w.0 w.1 w.2)) (λ w. w.1) (clause-or-other ℓ)

  module _ (whole : m.clausecount ≤ length m.clauses) where
    -- a clause stands on its line, where the lines rise
    pub line-clause : ((i j : ℕ) → i < j → j < m.clausecount → (clause_at m i).line < (clause_at m j).line) → (i : ℕ) → i < m.clausecount
        → line (program_of m) (clause_at m i).line ≡ clause_line m.literals (clause_at m i)
    line-clause rising i h =
        ⊎_elim
        (λ w. w.3 ∙ ap (λ (j : ℕ). clause_line m.literals (clause_at m j)) (rising-same (λ j. (clause_at m j).line) _ rising w.0 i w.1 h w.2))
        (λ w. absurd (w.0 i h (omega arith) refl))
        (clause-or-other (clause_at m i).line)

  module _ (whole : m.stagecount ≤ length m.stages) where
    pub length-question : length (question_of m) ≡ m.stagecount
    unfolding question_of
    length-question = length-map (take m.stagecount m.stages) (stage_of m.literals) ∙ length-take-le m.stagecount m.stages whole

    pub stage_at_lem : (i : ℕ) → i < m.stagecount → get_or (question_of m) i [] ≡ stage_of m.literals (stage_at m i)
    unfolding question_of
    stage_at_lem i h =
        get_or-map (stage_of m.literals) (take m.stagecount m.stages) i _
        ∙ ap (stage_of m.literals) (get_or-take m.stagecount m.stages i _ h)
