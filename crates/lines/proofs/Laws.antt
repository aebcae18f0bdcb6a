-- Clause i of a record is clause i of the program that it holds.
use mathlib.Core.Path.{◌≡◌, refl, sym, ◌∙◌, subst}
use mathlib.Core.Logic.{⊎_elim}
use mathlib.Core.Bool.{true, false, cond}
use mathlib.Core.List.{List, [], ◌∷◌, map}
use Prim.Native.Nat.{ℕ, zero, suc, ◌≤◌, ◌<◌}
use native.Mathlib.Omega.{arith}
use lib.Dec.{ltb}
use lib.ListN.{length, take, get_or}
use lib.Seq.{get_or-take, length-take-le}
use borrow.Author.Tests.{ltb-true, ltb-false, lt-ltb, le-ltb}
use Rattle.std.proofs.lemmas.Bool.{cases_Bool}
use Rattle.std.specs.Prelude.{Result, Ok, Err, MatchResult}
use Rattle.rows.specs.declared.Refusal.{Refusal}
use Rattle.semantics.specs.Models.{Body, other}
use Rattle.model.specs.declared.Action.{Action}
use Rattle.model.specs.declared.Action.TheVariants.{Rule, New, Next}
use Rattle.model.specs.declared.Clause.{Clause}
use Rattle.model.specs.declared.Model.{Model}
use Rattle.model.specs.Records.{clause_body, line_of, clause_line, program_of}
use Rattle.grammar.specs.Texts.{outcome}
use Rattle.text.specs.Reading.{Accepts, Reads}
use Rattle.text.proofs.Laws.{read-well-formed}
use Rattle.lines.specs.Lines.{kind, described, line_at, kind_of, recorded, nothing}

same_kind : (a : Action) (b : Body) → kind (line_of a b) ≡ kind_of a
same_kind (Rule r n) b = refl
same_kind (New s) b = refl
same_kind (Next plus minus) b = refl

at : (row : List ℕ) (k : ℕ) (cs : List Clause) (i : ℕ) → i < k → i < length cs
    → described (get_or (map (λ c. (c.line, clause_line row c)) (take k cs)) i (0, other)) ≡ recorded (get_or cs i nothing)
unfolding recorded
at row zero cs i h l = absurd (omega arith)
at row (suc k) [] i h l = absurd (omega arith)
at row (suc k) (c ∷ cs) zero h l = rw (same_kind c.action (clause_body row c))
at row (suc k) (c ∷ cs) (suc i) h l = at row k cs i (omega arith) (omega arith)

pub clause-recorded : (m : Model) (i : ℕ) → i < m.clausecount → i < length m.clauses → recorded (get_or m.clauses i nothing) ≡ described (get_or (program_of m) i (0, other))
unfolding program_of
clause-recorded m i h l = sym (at m.literals m.clausecount m.clauses i h l)

-- THE ANSWER for an accepted text, whose record is m
module _ (text : List ℕ) (m : Model) (a : Accepts (outcome text) text m) (i : ℕ) where
  few-clauses : m.clausecount ≤ 64
  few-clauses = (read-well-formed text m a).clauses

  clause-line : i < m.clausecount → recorded (get_or m.clauses i nothing) ≡ line_at (outcome text) i
  unfolding line_at
  clause-line l =
      let r = a.represents in
      let w = few-clauses in
      rw (a.says, lt-ltb i (length (program_of m)) (let c = r.clauses in omega arith)) (clause-recorded m i l (let c = r.row in omega arith))

  no_line : m.clausecount ≤ i → 0 ≡ line_at (outcome text) i
  unfolding line_at
  no_line l = let r = a.represents in rw (a.says, le-ltb i (length (program_of m)) (let c = r.clauses in omega arith))

  -- of the row that is lent on
  lent-line : cond (ltb i (length (take m.clausecount m.clauses))) (recorded (get_or (take m.clausecount m.clauses) i nothing)) 0 ≡ line_at (outcome text) i
  lent-line =
      let r = a.represents in
      let k : length (take m.clausecount m.clauses) ≡ m.clausecount = length-take-le m.clausecount m.clauses (let c = r.row in omega (arith, few-clauses)) in
      rw k (⊎_elim
      (λ (q : ltb i m.clausecount ≡ true). let l = ltb-true i m.clausecount q in rw (q, get_or-take m.clausecount m.clauses i nothing l) (clause-line l))
      (λ (q : ltb i m.clausecount ≡ false). rw q (no_line (ltb-false i m.clausecount q))) (cases_Bool (ltb i m.clausecount)))

-- the part of the row that is lent on lies within it
pub read-part : (text : List ℕ) (o : Result Model Refusal) (m : Model) → Reads (outcome text) text o → o ≡ Ok m → m.clausecount ≤ length m.clauses
read-part text o m h e =
    let a = subst (Reads (outcome text) text) e h in
    let r = a.represents.row in
    let few = few-clauses text m a 0 in
    omega arith

-- the answer to a text, by how it is read
pub answered : (text : List ℕ) (i : ℕ) (o : Result Model Refusal) (r : ℕ) (Told : Model → Type 0) → Reads (outcome text) text o → MatchResult o Told (λ _. r ≡ 0)
    → ((m : Model) → Told m → r ≡ cond (ltb i (length (take m.clausecount m.clauses))) (recorded (get_or (take m.clausecount m.clauses) i nothing)) 0) → r ≡ line_at (outcome text) i
unfolding line_at
answered text i (Ok m) r Told h e says = says m e ∙ lent-line text m h i
answered text i (Err x) r Told h e says = rw h e
