-- Document 01's office model, with its question of two stages, is well-formed.
use mathlib.Core.Path.{◌≡◌, refl}
use mathlib.Core.Bool.{Bool, true, ◌&&◌, and-eq-true_iff, false≢true}
use mathlib.Core.List.{List, [], ◌∷◌, ◌++◌}
use Prim.Native.Nat.{ℕ, zero, suc, ◌+◌, ◌≤◌, ◌<◌}
use native.Mathlib.Omega.{arith}
use lib.ListN.{length, get_or, replicate}
use Rattle.semantics.specs.Models.{elem, vars, is, isnt, fact, rule, new, next, firsts, shared, carriers, Safe, SafeLine, SafeQuestion}
use Rattle.semantics.proofs.Tools.{each-cons}
use Rattle.model.specs.declared.Action.TheVariants.{Rule, New, Next}
use Rattle.model.specs.declared.Clause.{Clause}
use Rattle.model.specs.declared.Stage.{Stage}
use Rattle.model.specs.declared.Model.{Model}
use Rattle.model.specs.Literals.{relation_of, decoded, literal_of}
use Rattle.model.specs.Records.{body_at, head_of, clause_body, clause_line, program_of, question_of, clause_at, stage_at}
use Rattle.model.specs.WellFormed.{declared_in, Declared, Numbered, GoodRelations, GoodPart, GoodAction, GoodClause, GoodStage, WellFormed}
use Rattle.model.proofs.Lines.{every-line}

-- (new (Admin)), (new (User)), (next x (Admin) () (User x) (Admin y)), (rule (Control x) (Admin x))
abbrev clauses : List Clause
clauses =
    record { action = New 1; line = 4; first = 0; count = 0; variables = 0 }
    ∷ record { action = New 2; line = 5; first = 0; count = 0; variables = 0 }
    ∷ record { action = Next 1 0; line = 6; first = 0; count = 2; variables = 2 }
    ∷ record { action = Rule 64 1; line = 7; first = 2; count = 1; variables = 1 }
    ∷ replicate 60 (record { action = New 0; line = 0; first = 0; count = 0; variables = 0 })

-- ((User x) (not (Admin x))) ((Control x))
abbrev stages : List Stage
stages =
    record { first = 3; count = 2; variables = 1; numbers = 0 ∷ 0 ∷ 0 ∷ [] }
    ∷ record { first = 5; count = 1; variables = 1; numbers = 0 ∷ 0 ∷ 0 ∷ [] }
    ∷ replicate 2 (record { first = 0; count = 0; variables = 0; numbers = 0 ∷ 0 ∷ 0 ∷ [] })

abbrev pub office : Model
office =
    record {
      relations = record { codes = 0 ∷ 1 ∷ 64 ∷ replicate 37 0; count = 3 };
      names = record { start = 7; len = 5 } ∷ record { start = 21; len = 4 } ∷ record { start = 32; len = 7 } ∷ replicate 37 (record { start = 0; len = 0 });
      clauses = clauses;
      clausecount = 4;
      literals = 65536 ∷ 256 ∷ 0 ∷ 65536 ∷ 16777216 ∷ 4194304 ∷ replicate 538 0;
      literalcount = 6;
      stages = stages;
      stagecount = 2;
      carried = 0 ∷ 255 ∷ [];
      lines = 8;
    }

-- what holds of each number below n
abbrev Each : (ℕ → Type 0) → ℕ → Type 0
Each P zero = Unit {0}
Each P (suc n) = P 0 × Each (λ i. P (suc i)) n

each : (P : ℕ → Type 0) (n : ℕ) → Each P n → (i : ℕ) → i < n → P i
each P zero e i h = absurd (omega arith)
each P (suc n) e zero h = e.0
each P (suc n) e (suc i) h = each (λ i. P (suc i)) n e.1 i (omega arith)

abbrev all_in : List ℕ → List ℕ → Bool
all_in [] ys = true
all_in (x ∷ xs) ys = elem x ys && all_in xs ys

all_in_lem : (xs ys : List ℕ) → all_in xs ys ≡ true → (x : ℕ) → elem x xs ≡ true → elem x ys ≡ true
all_in_lem [] ys h x e = absurd (false≢true e)
all_in_lem (y ∷ xs) ys h x e =
    let p = (and-eq-true_iff (elem y ys) (all_in xs ys)).0 h in
    each-cons (λ z. elem z ys ≡ true) y xs p.0 (all_in_lem xs ys p.1) x e

safe : Safe (program_of office)
unfolding literal_of decoded
safe =
    every-line office SafeLine tt
    (each (λ i. SafeLine (clause_line office.literals (clause_at office i))) 4
    ((λ x e. e), ((λ x e. e), ((refl, λ x e. e), (((refl, tt), (λ x e. e), λ x e. e), tt)))))

safely : SafeQuestion (question_of office)
unfolding question_of literal_of decoded
safely zero = all_in_lem (0 ∷ 0 ∷ []) (0 ∷ []) refl
safely (suc zero) = λ x e. e
safely (suc (suc i)) = λ x e. e

relations : GoodRelations office
unfolding declared_in
relations =
    record {
      count = omega arith;
      states = omega arith;
      derived = omega arith;
      pairs = omega arith;
      order = each _ 3 ((omega arith, refl), ((omega arith, refl), ((omega arith, refl), tt)));
    }

known : (k : ℕ) → k < 6 → Declared office (relation_of (get_or office.literals k 0))
unfolding declared_in
known =
    each (λ k. Declared office (relation_of (get_or office.literals k 0))) 6
    (omega arith, (omega arith, (omega arith, (omega arith, (omega arith, (omega arith, tt))))))

part : (first count n : ℕ) → first + count ≤ 6 → count ≤ 8 → n ≤ 3 → GoodPart office first count n
part first count n w s f = record { within = w; short = s; few = f; relations = λ k h. known (first + k) (omega arith) }

on_line : (c : Clause) → 1 ≤ c.line → c.line < 8 → c.first + c.count ≤ 6 → c.count ≤ 8 → c.variables ≤ 3
    → Numbered (head_of c.action ++ vars (clause_body office.literals c)) c.variables → GoodAction office c.action → GoodClause office c
on_line c f l w s v n a = record { part = part c.first c.count c.variables w s v; numbered = n; action = a; first = f; last = l }

clause : (i : ℕ) → i < 4 → GoodClause office (clause_at office i)
unfolding firsts literal_of decoded declared_in
clause =
    each (λ i. GoodClause office (clause_at office i)) 4 (
      on_line _ (omega arith) (omega arith) (omega arith) (omega arith) (omega arith) refl (omega arith),
      (
        on_line _ (omega arith) (omega arith) (omega arith) (omega arith) (omega arith) refl (omega arith),
        (
          on_line _ (omega arith) (omega arith) (omega arith) (omega arith) (omega arith) refl (omega arith),
          (
            on_line _ (omega arith) (omega arith) (omega arith) (omega arith) (omega arith) refl (omega arith, refl),
            tt,
          ),
        ),
      ),
    )

lines : (i : ℕ) → i < 4 → (clause_at office i).line ≡ i + 4
lines = each (λ i. (clause_at office i).line ≡ i + 4) 4 (refl, (refl, (refl, (refl, tt))))

one-variable : (first count : ℕ) → first + count ≤ 6 → 1 ≤ count → count ≤ 8 → Numbered (vars (body_at office.literals first count)) 1
    → GoodStage office (record { first = first; count = count; variables = 1; numbers = 0 ∷ 0 ∷ 0 ∷ [] })
one-variable first count w o s v =
    record {
      part = part first count 1 w s (omega arith);
      some = o;
      numbered = v;
      different = λ x y a b e. omega arith;
      small = each (λ x. get_or (0 ∷ 0 ∷ 0 ∷ []) x 0 < 12) 1 (omega arith, tt);
    }

stage : (i : ℕ) → i < 2 → GoodStage office (stage_at office i)
unfolding firsts literal_of decoded
stage =
    each (λ i. GoodStage office (stage_at office i)) 2
    (one-variable 3 2 (omega arith) (omega arith) (omega arith) refl, (one-variable 5 1 (omega arith) (omega arith) (omega arith) refl, tt))

carried : carriers (question_of office) ≡ 0 ∷ []
unfolding question_of literal_of decoded shared firsts
carried = refl

pub well-formed : WellFormed office
well-formed =
    record {
      relations = relations;
      clauses = omega arith;
      clause = clause;
      rising = λ i j l h. omega (arith, lines i (omega arith), lines j h);
      safe = safe;
      one = omega arith;
      stages = omega arith;
      stage = stage;
      safely = safely;
      carries = rw carried (omega arith);
      carried = rw carried;
      lines = omega arith;
      literalcount = omega arith;
      codes = refl;
      row = refl;
      literals = refl;
      asked = refl;
      numbers = each (λ i. length (stage_at office i).numbers ≡ 3) 2 (refl, (refl, tt));
    }

-- what the record says
pub program : program_of office
    ≡ (4, new 1 []) ∷ (5, new 2 []) ∷ (6, next 0 1 0 (is 1 0 ∷ is 0 1 ∷ [])) ∷ (7, rule 64 (0 ∷ []) (is 0 0 ∷ [])) ∷ []
unfolding program_of literal_of decoded
program = refl

pub question : question_of office ≡ (is 1 0 ∷ isnt 0 0 ∷ []) ∷ (fact 64 (0 ∷ []) ∷ []) ∷ []
unfolding question_of literal_of decoded
question = refl
